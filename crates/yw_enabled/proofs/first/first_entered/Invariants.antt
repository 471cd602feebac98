use Rattle.std.proofs.Common.{ℕ, ◌<◌}
use Rattle.yw_enabled.proofs.first.first_entered.Given as goal
use Rattle.yw_enabled.specs.Entered.{StaysOut}

abbrev pub invariant-loop-t : goal.invariant-loop-t
invariant-loop-t l = (k : ℕ) → k < l.t → StaysOut l.net l.state l.first l.chosen k
