use Rattle.std.proofs.Common.{◌≡◌, ◌≤◌, ◌-◌, ◌^◌}
use Rattle.std.specs.Io.KnownBytes.{Keeps}
use Rattle.yw_adapt.proofs.std_source.StdSourceSource.read.Given as goal

abbrev pub invariant-loop-self : goal.invariant-loop-self
invariant-loop-self g l =
    (l.initial.self.calls.made ≤ l.self.calls.made)
    × (l.self.calls.failed ≡ l.initial.self.calls.failed)
    × (l.self.piece ≡ l.initial.self.piece)
    × Keeps (g.R.Read.remaining l.initial.self.inner) (g.R.Read.remaining l.self.inner)

abbrev pub decreases-loop-self : goal.decreases-loop-self
decreases-loop-self g l = 2 ^ 64 - 1 - l.self.calls.made
