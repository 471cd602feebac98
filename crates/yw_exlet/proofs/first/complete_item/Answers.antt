use Rattle.std.proofs.Common.{ap, subst, sym, ◌∙◌}
use Rattle.std.specs.Option.{option_copied}
use Rattle.std.specs.Prelude.{OnOk, is_some}
use Rattle.yw_exlet.proofs.Handed.{at_item}
use Rattle.yw_exlet.proofs.ByKind.{completes_none}
use Rattle.yw_exlet.proofs.first.complete_item.Goals as goal
use Rattle.yw_exlet.specs.Needs.{Completes}
use Rattle.yw_state.specs.Identity.{is_case_ident}

pub complete_of_task-requires-clause-item : goal.complete_of_task-requires-clause-item
complete_of_task-requires-clause-item c = at_item (is_case_ident c.args.j.now) (sym (ap (λ o. is_some (option_copied o)) c.in-Some.is) ∙ c.requires.item)

pub returns-in-Some-clause-ok : goal.returns-in-Some-clause-ok
returns-in-Some-clause-ok c =
    subst (λ o. OnOk c.complete_of_task.result (Completes o c.args.r.now c.args.j.now c.args.forest.now c.complete_of_task.new.forest)) (sym (ap option_copied c.in-Some.is)) c.complete_of_task.ensures.ok

pub returns-in-None-clause-ok : goal.returns-in-None-clause-ok
returns-in-None-clause-ok c = λ top comp due is.
    completes_none top (option_copied c.args.item) comp due c.args.r.now c.args.forest.now c.take_none.new.forest c.take_none.ensures.boxed (ap option_copied c.in-None.is) c.take_none.ensures.takes
