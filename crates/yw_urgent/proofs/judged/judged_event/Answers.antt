use Rattle.std.proofs.Common.{subst, true, ◌≡◌}
use Rattle.std.specs.Option.{option_copied}
use Rattle.yw_deeds.specs.Judging.{IsTreeAt}
use Rattle.yw_standing.specs.State.{state_of}
use Rattle.yw_state.specs.Allowed.{comes_next}
use Rattle.yw_urgent.proofs.Coming.{not_select}
use Rattle.yw_urgent.proofs.judged.judged_event.Goals as goal

pub choice_event-requires-clause-next : goal.choice_event-requires-clause-next
choice_event-requires-clause-next c = subst (λ k. comes_next (state_of c.args.standing.now) c.args.at.now k ≡ true) c.in-Select.is c.requires.next

pub choice_event-requires-clause-tree : goal.choice_event-requires-clause-tree
choice_event-requires-clause-tree c =
    subst (λ k. IsTreeAt (state_of c.args.standing.now) c.args.at.now k (option_copied c.args.tree)) c.in-Select.is c.requires.tree

pub check_event-requires-clause-other : goal.check_event-requires-clause-other
check_event-requires-clause-other c = not_select c.args.check c.in_default.not-Select
