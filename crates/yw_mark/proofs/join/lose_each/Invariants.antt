use Rattle.std.proofs.Common.{◌≡◌, take}
use Rattle.std.specs.Prelude.{fold}
use Rattle.yw_mark.proofs.join.lose_each.Given as goal
use Rattle.yw_state.specs.After.{one_less}

abbrev pub invariant-loop-c : goal.invariant-loop-c
invariant-loop-c l = l.marks ≡ fold one_less l.fn.marks (take l.c-index l.places)
