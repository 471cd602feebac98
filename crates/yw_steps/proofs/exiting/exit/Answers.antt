use Rattle.std.proofs.Common.{ap, subst, sym, ◌∙◌, ◌≡◌}
use Rattle.yw_steps.proofs.ExitLaw.{exits_so}
use Rattle.yw_steps.proofs.exiting.exit.Goals as goal
use Rattle.yw_steps.specs.Exits.{Exits, judged}
use Rattle.yw_tree.specs.declared.Forest.{Forest}

pub returns : goal.returns
returns c =
    let f = c.args.forest.now in
    let i = c.args.at.now in
    let net = c.args.net.now in
    let g = c.leave-places.new.forest in
    let numbers = c.leave-places.result in
    let then : c.judge_end.new.forest ≡ judged i net numbers c.args.due_post g = c.judge_end.ensures ∙ ap (λ cs. judged i net cs c.args.due_post g) c.as_slice.ensures in
    subst (λ (k : Forest). Exits net i c.args.t c.args.due_post f k) (sym then) (exits_so f c.requires.boxed i c.leave-places.ensures.identity net c.args.t c.args.due_post g numbers c.leave-places.ensures.leaves)
