use Rattle.std.proofs.Common.{◌≡◌, ◌≤◌, ◌-◌, length, take, drop}
use Rattle.std.specs.Option.{ForSome}
use Rattle.yw_adapt.specs.Files.{TornAt}
use Rattle.yw_adapt.proofs.slot.write_whole.Given as goal

abbrev pub invariant-loop-done : goal.invariant-loop-done
invariant-loop-done g l =
    (l.done ≤ length l.bytes)
    × ForSome (g.S.System.holds l.file) (λ held. take l.done (drop l.at held) ≡ take l.done l.bytes)
    × TornAt l.at (length l.bytes) (g.S.System.holds l.initial.file) (g.S.System.holds l.file)
    × (g.S.System.path l.file ≡ g.S.System.path l.initial.file)
    × (g.S.System.is_kept l.file ≡ g.S.System.is_kept l.initial.file)
    × (g.S.System.is_locked l.file ≡ g.S.System.is_locked l.initial.file)
    × ((g.S.System.calls l.system).failed ≡ (g.S.System.calls l.initial.system).failed)

abbrev pub decreases-loop-done : goal.decreases-loop-done
decreases-loop-done g l = length l.bytes - l.done
