use Rattle.std.proofs.Common.{◌≡◌, ℕ, List, ◌++◌, length}
use Rattle.std.specs.Io.KnownBytes.{Appends}
use Rattle.yw_adapt.proofs.output.hand.Given as goal

abbrev pub invariant-loop-rest : goal.invariant-loop-rest
invariant-loop-rest g l =
    ((g.O.Output.calls l.out).failed ≡ (g.O.Output.calls l.initial.out).failed)
    × ((done : List ℕ) × (l.bytes ≡ done ++ l.rest) × Appends (g.O.Output.contents l.initial.out) (g.O.Output.contents l.out) done)

abbrev pub decreases-loop-rest : goal.decreases-loop-rest
decreases-loop-rest g l = length l.rest
