use Rattle.std.proofs.Common.{◌≡◌, ◌∙◌, ◌++◌, ◌∷◌, [], ap, refl, sym}
use Rattle.std.proofs.lemmas.Result.{on_ok_weaker}
use Rattle.yw_sites.proofs.Each.{nil_right}
use Rattle.yw_shown.proofs.marks.push_run.Goals as goal
use Rattle.yw_state.specs.declared.answer.RunRow.{RunRow}
use Rattle.yw_tree.specs.declared.Run.{out-Run}

pub returns : goal.returns
returns c =
    let run = out-Run c.args.run.now in
    let at : c.in_ok-copy.field-0 ≡ c.args.at.now = c.in_ok-copy.ensures in
    let rest : c.in_ok-copy_of_primitives.field-0 ≡ run.rest = c.in_ok-copy_of_primitives.ensures ∙ c.as_slice.ensures in
    let made : RunRow = record { run = c.in_ok-copy.field-0; waiting = run.waiting; rest = c.in_ok-copy_of_primitives.field-0 } in
    let wanted : RunRow = record { run = c.args.at.now; waiting = run.waiting; rest = run.rest } in
    let same : made ≡ wanted = (λ z. record { run = at z; waiting = run.waiting; rest = rest z }) in
    on_ok_weaker c.push.result
    (λ pushed names. record {
      due = sym (nil_right c.args.shown.now.due);
      runs = pushed ∙ ap (λ (r : RunRow). c.args.shown.now.runs ++ r ∷ []) same;
      suspended = sym (nil_right c.args.shown.now.suspended);
      items = refl;
      nets = refl;
      tokens = refl;
    }) c.push.ensures.ok
