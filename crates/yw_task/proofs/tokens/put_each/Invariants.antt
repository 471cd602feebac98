use Rattle.std.proofs.Common.{take, ◌≡◌}
use Rattle.std.specs.Prelude.{fold}
use Rattle.yw_state.specs.After.{one_more}
use Rattle.yw_task.proofs.tokens.put_each.Given as goal
use Rattle.yw_task.specs.Making.{AreFew}

abbrev pub invariant-loop-c : goal.invariant-loop-c
invariant-loop-c l = AreFew l.fn.marks l.places → l.marks ≡ fold one_more l.fn.marks (take l.c-index l.places)
