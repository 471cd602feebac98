use Rattle.std.proofs.Common.{◌≡◌, ◌≤◌, ◌-◌, ◌^◌}
use Rattle.yw_adapt.proofs.calls.Calls.retry.Given as goal

abbrev pub invariant-loop-self : goal.invariant-loop-self
invariant-loop-self g l = (l.initial.self.made ≤ l.self.made) × (l.self.failed ≡ l.initial.self.failed)

abbrev pub decreases-loop-self : goal.decreases-loop-self
decreases-loop-self g l = 2 ^ 64 - 1 - l.self.made
