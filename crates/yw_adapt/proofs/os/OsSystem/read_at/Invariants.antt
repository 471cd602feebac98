use Rattle.std.proofs.Common.{◌≡◌, ◌≤◌, ◌-◌, ◌^◌, length}
use Rattle.yw_adapt.proofs.os.OsSystem.read_at.Given as goal

abbrev pub invariant-loop-self : goal.invariant-loop-self
invariant-loop-self g l = (l.initial.self.calls.made ≤ l.self.calls.made) × (l.self.calls.failed ≡ l.initial.self.calls.failed) × (length l.buf ≡ length l.initial.buf)

abbrev pub decreases-loop-self : goal.decreases-loop-self
decreases-loop-self g l = 2 ^ 64 - 1 - l.self.calls.made
