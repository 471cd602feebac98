use Rattle.std.proofs.Common.{refl, subst}
use Rattle.std.specs.Option.{option_copied}
use Rattle.yw_nest.proofs.Results.{if_ok}
use Rattle.yw_standing.specs.State.{state_of}
use Rattle.yw_tree.specs.declared.Run.{out-Run}
use Rattle.yw_urgent.proofs.Coming.{first_comes, has_first}
use Rattle.yw_urgent.proofs.identity.event_of.Goals as goal
use Rattle.yw_urgent.specs.Events.{TakesFirst}
use Rattle.yw_urgent.specs.Here.{IsHere, at_work}
use Rattle.yw_urgent.specs.Trees.{IsTreeOf}
use Rattle.yw_urgent.specs.Urgent.{IsUrgent}

pub judged_event-requires-clause-next : goal.judged_event-requires-clause-next
judged_event-requires-clause-next c = subst (IsHere (state_of c.args.standing.now) c.args.at.now) c.in-Check.is c.requires.here

pub judged_event-requires-clause-tree : goal.judged_event-requires-clause-tree
judged_event-requires-clause-tree c =
    subst (λ u. IsTreeOf (state_of c.args.standing.now) c.args.at.now u (option_copied c.args.tree)) c.in-Check.is c.requires.tree

pub primitive_event-requires : goal.primitive_event-requires
primitive_event-requires c =
    let s = state_of c.args.standing.now in
    let j = c.args.at.now in
    has_first s j (at_work c.in-Run.run'.now) (subst (IsHere s j) c.in-Run.is c.requires.here) refl c.requires.held.well

pub returns-in-Run : goal.returns-in-Run
returns-in-Run c =
    let s = state_of c.args.standing.now in
    let j = c.args.at.now in
    let run = c.in-Run.run'.now in
    if_ok c.primitive_event.result (TakesFirst j (out-Run run).rest) (IsUrgent s j) c.primitive_event.ensures
    (first_comes s j (at_work run) (subst (IsHere s j) c.in-Run.is c.requires.here) refl)
