use Rattle.std.proofs.Common.{◌≡◌, take, []}
use Rattle.yw_outside.specs.declared.image.Image.{Image}
use Rattle.yw_outside.specs.Log.{state_of, calls_in}
use Rattle.yw_outside.proofs.replay.said_after.Given as goal

abbrev pub invariant-loop-made : goal.invariant-loop-made
invariant-loop-made l = (i : Image) → i.said ≡ [] → l.said.items ≡ (state_of i (calls_in (take l.made-index l.log))).said
