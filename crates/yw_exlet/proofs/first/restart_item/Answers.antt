use Rattle.std.proofs.Common.{ap, subst, sym, ◌∙◌}
use Rattle.std.specs.Option.{option_copied}
use Rattle.std.specs.Prelude.{is_some}
use Rattle.yw_exlet.proofs.Handed.{at_item}
use Rattle.yw_exlet.proofs.ByKind.{restarts_none, restarts_one}
use Rattle.yw_exlet.proofs.first.restart_item.Goals as goal
use Rattle.yw_exlet.specs.Takes.{TakesBy, restarts}
use Rattle.yw_state.specs.Identity.{is_case_ident}

pub take_restart-requires-clause-item : goal.take_restart-requires-clause-item
take_restart-requires-clause-item c = at_item (is_case_ident c.args.j.now) (sym (ap (λ o. is_some (option_copied o)) c.in-Some.is) ∙ c.requires.item)

pub returns-in-Some : goal.returns-in-Some
returns-in-Some c = λ top comp is.
    let f = c.args.forest.now in
    let g = c.take_restart.new.forest in
    let r = c.args.r.now in
    restarts_one top (option_copied c.args.item) comp c.args.due r f g c.take_restart.ensures.boxed c.in-Some._task.now (ap option_copied c.in-Some.is)
    (subst (λ k. TakesBy r (restarts r k c.args.due.select) f g) is c.take_restart.ensures.takes)

pub returns-in-None : goal.returns-in-None
returns-in-None c = λ top comp is.
    restarts_none top (option_copied c.args.item) comp c.args.due c.args.r.now c.args.forest.now c.take_none.new.forest c.take_none.ensures.boxed (ap option_copied c.in-None.is) c.take_none.ensures.takes
