use Rattle.std.proofs.Common.{length, ◌≡◌}
use Rattle.yw_tree.proofs.EmptyNet.{AreEmpty}
use Rattle.yw_tree.proofs.NetState.empty.Given as goal

abbrev pub invariant-loop : goal.invariant-loop
invariant-loop l = record { empty : AreEmpty l.items.items; many : length l.items.items ≡ l.counter }
