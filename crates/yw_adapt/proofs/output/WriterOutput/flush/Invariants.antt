use Rattle.std.proofs.Common.{◌≡◌, ◌≤◌, ◌-◌, ◌^◌}
use Rattle.std.specs.Io.KnownBytes.{Keeps}
use Rattle.yw_adapt.proofs.output.WriterOutput.flush.Given as goal

abbrev pub invariant-loop-self : goal.invariant-loop-self
invariant-loop-self g l =
    (l.initial.self.calls.made ≤ l.self.calls.made)
    × (l.self.calls.failed ≡ l.initial.self.calls.failed)
    × Keeps (g.W.Write.contents l.initial.self.inner) (g.W.Write.contents l.self.inner)

abbrev pub decreases-loop-self : goal.decreases-loop-self
decreases-loop-self g l = 2 ^ 64 - 1 - l.self.calls.made
