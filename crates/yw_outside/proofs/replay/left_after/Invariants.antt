use Rattle.std.proofs.Common.{◌≡◌, take}
use Rattle.yw_outside.specs.declared.image.Image.{Image}
use Rattle.yw_outside.specs.Fills.{standing}
use Rattle.yw_outside.specs.Image.{file_in}
use Rattle.yw_outside.specs.Log.{calls_in}
use Rattle.yw_outside.proofs.replay.left_after.Given as goal

abbrev pub invariant-loop-k : goal.invariant-loop-k
invariant-loop-k l = (i : Image) → l.base ≡ file_in l.f i → l.left.items ≡ standing l.f l.fill i (calls_in (take l.k l.log))
