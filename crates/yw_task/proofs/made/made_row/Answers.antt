use Rattle.std.proofs.Common.{ap, append-nil, arith, length, sym, ◌++◌, ◌∙◌}
use Rattle.std.proofs.lemmas.List.{drop_all}
use Rattle.yw_task.proofs.made.made_row.Goals as goal
use Rattle.yw_task.specs.Making.{outs_from}

pub returns : goal.returns
returns c =
    let t = c.args.task.now in
    let ns = c.args.nodes.now in
    sym (append-nil c.loop-k.row) ∙ ap (λ ps. c.loop-k.row ++ outs_from t ns c.loop-k.k ps) (sym (drop_all c.loop-k.k t.outs (omega (arith, ap length c.as_slice-param-items.ensures)))) ∙ c.loop-k.invariant
