use Rattle.std.proofs.Common.{◌≡◌, take}
use Rattle.yw_outside.specs.declared.image.Image.{Image}
use Rattle.yw_outside.specs.Image.{file_in}
use Rattle.yw_outside.specs.Log.{state_of, calls_in}
use Rattle.yw_outside.proofs.replay.contents.Given as goal

abbrev pub invariant-loop-made : goal.invariant-loop-made
invariant-loop-made l = (i : Image) → l.base ≡ file_in l.f i → l.bytes.items ≡ file_in l.f (state_of i (calls_in (take l.made-index l.log)))
