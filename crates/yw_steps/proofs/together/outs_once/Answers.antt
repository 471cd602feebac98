use Rattle.std.proofs.Common.{ap, append-nil, arith, length, sym, ◌++◌, ◌∙◌}
use Rattle.std.proofs.lemmas.List.{drop_all}
use Rattle.yw_steps.proofs.together.outs_once.Goals as goal
use Rattle.yw_steps.specs.Completes.{outs_once}

pub returns : goal.returns
returns c =
    let t = c.args.task.now in
    let ns = c.args.nodes.now in
    let j = c.args.j.now in
    let out = c.args.out.now in
    let k = c.loop-k.k in
    sym (append-nil c.loop-k.row) ∙ ap (λ ps. c.loop-k.row ++ outs_once j out ns k ps) (sym (drop_all k t.outs (omega (arith, ap length c.as_slice-param-items.ensures)))) ∙ c.loop-k.invariant
