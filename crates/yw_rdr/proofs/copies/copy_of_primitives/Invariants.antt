use Rattle.std.proofs.Common.{take, ◌≡◌}
use Rattle.yw_rdr.proofs.copies.copy_of_primitives.Given as goal

abbrev pub invariant-loop-primitive : goal.invariant-loop-primitive
invariant-loop-primitive l = l.copy ≡ take l.primitive-index l.primitives
