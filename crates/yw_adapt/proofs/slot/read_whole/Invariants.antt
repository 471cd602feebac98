use Rattle.std.proofs.Common.{◌≡◌, ◌≤◌, ◌-◌, length, take, drop}
use Rattle.std.specs.Option.{ForSome}
use Rattle.yw_adapt.proofs.slot.read_whole.Given as goal

abbrev pub invariant-loop-done : goal.invariant-loop-done
invariant-loop-done g l =
    (l.done ≤ length l.buf)
    × (length l.buf ≡ length l.initial.buf)
    × ForSome (g.S.System.holds l.file) (λ held. take l.done l.buf ≡ take l.done (drop l.at held))
    × ((g.S.System.calls l.system).failed ≡ (g.S.System.calls l.initial.system).failed)

abbrev pub decreases-loop-done : goal.decreases-loop-done
decreases-loop-done g l = length l.buf - l.done
