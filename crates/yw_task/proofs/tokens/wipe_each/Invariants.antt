use Rattle.std.proofs.Common.{take, ◌≡◌}
use Rattle.std.specs.Prelude.{fold}
use Rattle.yw_state.specs.After.{no_more}
use Rattle.yw_task.proofs.tokens.wipe_each.Given as goal

abbrev pub invariant-loop-c : goal.invariant-loop-c
invariant-loop-c l = l.marks ≡ fold no_more l.fn.marks (take l.c-index l.places)
