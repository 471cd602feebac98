use Rattle.std.proofs.Common.{◌<◌, ℕ, get_or}
use Rattle.std.specs.Prelude.{IsTrue, not}
use Rattle.yw_mark.specs.Tokens.{is_marked}
use Rattle.yw_path.specs.Waiting.{MayStillCome}
use Rattle.yw_task.proofs.waits.may_fill.Given as goal

abbrev pub invariant-loop-c : goal.invariant-loop-c
invariant-loop-c l = (k : ℕ) → k < l.c-index → IsTrue (not (is_marked l.marks (get_or l.c-items k 0))) → MayStillCome l.net l.marks l.active (get_or l.c-items k 0) → ⊥
