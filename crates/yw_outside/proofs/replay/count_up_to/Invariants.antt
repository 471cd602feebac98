use Rattle.std.proofs.Common.{◌≡◌, ◌+◌, drop, nat_le}
use Rattle.std.specs.List.{prefix_len}
use Rattle.yw_outside.specs.declared.log.Made.{Made}
use Rattle.yw_outside.proofs.replay.count_up_to.Given as goal

abbrev pub invariant-loop-i : goal.invariant-loop-i
invariant-loop-i l = l.i + prefix_len (λ (m : Made). nat_le m.number l.number) (drop l.i l.log) ≡ prefix_len (λ (m : Made). nat_le m.number l.number) l.log
