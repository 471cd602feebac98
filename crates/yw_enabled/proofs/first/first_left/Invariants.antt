use Rattle.std.proofs.Common.{false, ℕ, ◌<◌}
use Rattle.std.specs.Option.{option_copied}
use Rattle.yw_enabled.proofs.first.first_left.Given as goal
use Rattle.yw_enabled.specs.Left.{IsLeavingAs, TellsNet}

abbrev pub invariant-loop-t : goal.invariant-loop-t
invariant-loop-t l = TellsNet l.state (option_copied l.told) → (k : ℕ) → k < l.t → IsLeavingAs l.net l.state k false
