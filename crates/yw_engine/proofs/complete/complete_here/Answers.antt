use Rattle.std.proofs.Common.{None, Option, Some, subst}
use Rattle.yw_breaks.proofs.Whole.{complete_joins}
use Rattle.yw_breaks.specs.Tables.{complete_front, complete_most, complete_rest}
use Rattle.yw_engine.proofs.Completes.{asked, fits, its_task, last_first, most_first, most_is}
use Rattle.yw_engine.proofs.Fronts.{behind, moving}
use Rattle.yw_engine.proofs.complete.complete_here.Goals as goal
use Rattle.yw_standing.specs.State.{state_of}
use Rattle.yw_texts.specs.Texts.{reader}
use Rattle.yw_state.specs.Broken.{First}
use Rattle.yw_state.specs.declared.command.Command.TheVariants as commands
use Rattle.yw_state.specs.declared.rule.Refusal.{Refusal}

pub returns-in-Some : goal.returns-in-Some
returns-in-Some c =
    let h = c.args.work.now.standing in
    let s = state_of h in
    let who = c.args.who.now in
    let j = c.args.item in
    let gs = c.args.given.now in
    moving h (commands.Complete who j gs) j (complete_front s who j gs) (complete_rest s who j gs) (complete_joins reader s who j gs) c.requires.front
    c.args.quiet c.requires.rest c.breaks_quiet.result c.breaks_quiet.ensures c.in-Some.refusal c.in-Some.is

pub returns-in-Some-2 : goal.returns-in-Some-2
returns-in-Some-2 c =
    let h = c.args.work.now.standing in
    let may = c.requires.stands in
    let s = state_of h in
    let who = c.args.who.now in
    let j = c.args.item in
    let gs = c.args.given.now in
    let most = subst (λ (o : Option Refusal). First (complete_most s who j gs) o) c.in-Some-2.is
    (most_is h may who j gs c.args.here.now c.requires.says c.forest.result.now c.forest.ensures c.in_ok-refusal.field-0 c.in_ok-refusal.ensures.finds) in
    behind h (commands.Complete who j gs) j (complete_front s who j gs) (complete_rest s who j gs) (complete_joins reader s who j gs) c.requires.front
    c.args.quiet c.requires.rest c.breaks_quiet.result c.breaks_quiet.ensures c.in_default.is
    (Some c.in-Some-2.refusal) (most_first h may who j gs c.in-Some-2.refusal most)

pub complete_values-requires : goal.complete_values-requires
complete_values-requires c =
    let h = c.args.work.now.standing in
    let may = c.requires.stands in
    let s = state_of h in
    let who = c.args.who.now in
    let j = c.args.item in
    let gs = c.args.given.now in
    let most = subst (λ (o : Option Refusal). First (complete_most s who j gs) o) c.in_default-2.is
    (most_is h may who j gs c.args.here.now c.requires.says c.forest.result.now c.forest.ensures c.in_ok-refusal.field-0 c.in_ok-refusal.ensures.finds) in
    fits h may who j gs c.args.here.now c.requires.says most

pub ask_mapping-requires : goal.ask_mapping-requires
ask_mapping-requires c =
    its_task c.args.work.now.standing c.requires.stands c.args.who.now c.args.item c.args.given.now c.args.here.now c.requires.says

pub returns-in-Some-3 : goal.returns-in-Some-3
returns-in-Some-3 c =
    let h = c.args.work.now.standing in
    let may = c.requires.stands in
    let s = state_of h in
    let who = c.args.who.now in
    let j = c.args.item in
    let gs = c.args.given.now in
    let most = subst (λ (o : Option Refusal). First (complete_most s who j gs) o) c.in_default-2.is
    (most_is h may who j gs c.args.here.now c.requires.says c.forest.result.now c.forest.ensures c.in_ok-refusal.field-0 c.in_ok-refusal.ensures.finds) in
    let breaks = c.in_ok-refusal-2.ensures who (c.in_ok-refusal.ensures.shown c.in_default-2.is) in
    let last = last_first h may who j gs c.args.here.now c.requires.says most c.in_ok-out.out
    (c.in_ok-out.ensures h.known h.forest j c.requires.says) c.in_ok-refusal-2.field-0 breaks in
    behind h (commands.Complete who j gs) j (complete_front s who j gs) (complete_rest s who j gs) (complete_joins reader s who j gs) c.requires.front
    c.args.quiet c.requires.rest c.breaks_quiet.result c.breaks_quiet.ensures c.in_default.is
    (Some c.in-Some-3.refusal) (subst (λ (o : Option Refusal). First (complete_rest s who j gs) o) c.in-Some-3.is last)

pub returns-in-None : goal.returns-in-None
returns-in-None c =
    let h = c.args.work.now.standing in
    let may = c.requires.stands in
    let s = state_of h in
    let who = c.args.who.now in
    let j = c.args.item in
    let gs = c.args.given.now in
    let says = c.requires.says in
    let makes = c.in_ok-out.ensures h.known h.forest j says in
    let most = subst (λ (o : Option Refusal). First (complete_most s who j gs) o) c.in_default-2.is
    (most_is h may who j gs c.args.here.now says c.forest.result.now c.forest.ensures c.in_ok-refusal.field-0 c.in_ok-refusal.ensures.finds) in
    let breaks = c.in_ok-refusal-2.ensures who (c.in_ok-refusal.ensures.shown c.in_default-2.is) in
    let last = last_first h may who j gs c.args.here.now says most c.in_ok-out.out makes c.in_ok-refusal-2.field-0 breaks in (
      behind h (commands.Complete who j gs) j (complete_front s who j gs) (complete_rest s who j gs) (complete_joins reader s who j gs) c.requires.front
          c.args.quiet c.requires.rest c.breaks_quiet.result c.breaks_quiet.ensures c.in_default.is
          None (subst (λ (o : Option Refusal). First (complete_rest s who j gs) o) c.in-None.is last),
      asked h may who j gs c.args.here.now says most c.in_ok-out.out makes,
    )
