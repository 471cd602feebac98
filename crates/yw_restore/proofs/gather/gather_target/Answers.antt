use Rattle.std.proofs.Common.{◌∙◌, ◌++◌, ap, map, refl}
use Rattle.std.proofs.lemmas.Result.{on_ok_weaker}
use Rattle.yw_restore.proofs.Growing.{none_more}
use Rattle.yw_restore.proofs.Here.{due_listed, mark_listed, no_run_listed}
use Rattle.yw_restore.proofs.gather.gather_target.Goals as goal
use Rattle.yw_restore.specs.Lines.{ident_of_mark, row_of_due, row_of_run}

pub returns : goal.returns
returns c =
    let j = c.args.at.now in
    let old = c.args.lines.now in
    on_ok_weaker c.push_due.result
    (λ due x is_due is_suspended no_run. record {
      runs = none_more row_of_run old.runs _ (no_run_listed j x no_run);
      suspended = c.in_ok-push_mark.ensures ∙ ap (λ z. map ident_of_mark old.suspended ++ z) (mark_listed j x c.args.suspended is_suspended);
      due = due ∙ ap (λ z. map row_of_due old.due ++ z) (due_listed j x c.args.due is_due);
      nets = refl;
      tokens = refl;
      items = refl;
    }) c.push_due.ensures
