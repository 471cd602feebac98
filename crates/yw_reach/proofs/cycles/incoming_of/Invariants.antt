use Rattle.std.proofs.Common.{◌≡◌, ◌≤◌, ℕ, get_or, length, take}
use Rattle.yw_reach.specs.Trimming.{flows_into}
use Rattle.yw_reach.proofs.cycles.incoming_of.Given as goal

abbrev pub invariant-loop-flow : goal.invariant-loop-flow
invariant-loop-flow l = record {
  len : length l.incoming.items ≡ l.count;
  counts : (k : ℕ) → get_or l.incoming.items k 0 ≡ flows_into (λ _. 1) k (take l.flow-index l.flows);
  few : (k : ℕ) → get_or l.incoming.items k 0 ≤ l.flow-index;
}
