use Rattle.std.proofs.Common.{ap, subst, sym, ◌∙◌}
use Rattle.std.specs.Option.{option_copied}
use Rattle.yw_deeds.specs.Judging.{IsTreeAt}
use Rattle.yw_standing.specs.State.{state_of}
use Rattle.yw_state.specs.declared.tree.TreeKind.TheVariants.{Select}
use Rattle.yw_urgent.proofs.Lent.{greatest_node, least_node, no_tree, none_begins, worklet_is}
use Rattle.yw_urgent.proofs.judged.chosen_worklet.Goals as goal
use Rattle.yw_worklet.specs.Chosen.{where_shallow}

pub returns-in_err-links : goal.returns-in_err-links
returns-in_err-links c =
    let s = state_of c.args.standing.now in
    let j = c.args.at.now in
    rw c.from_residual.ensures (sym (no_tree s j (subst (λ o. IsTreeAt s j Select (option_copied o)) c.in_err-links.was c.requires.tree)))

pub returns-in_err-node : goal.returns-in_err-node
returns-in_err-node c =
    let s = state_of c.args.standing.now in
    let j = c.args.at.now in
    rw c.from_residual-in_err-node.ensures (sym (none_begins s j (ap (where_shallow j) (sym c.judge.ensures) ∙ sym c.judge_select.ensures ∙ c.in_err-node.was)))

pub worklet_in-requires-clause-some : goal.worklet_in-requires-clause-some
worklet_in-requires-clause-some c =
    let s = state_of c.args.standing.now in
    let j = c.args.at.now in
    let tree = subst (λ o. IsTreeAt s j Select (option_copied o)) c.in_ok-links.was c.requires.tree in
    least_node s j c.in_ok-links.links.now tree c.in_ok-node.node (ap (where_shallow j) (sym c.judge.ensures) ∙ sym c.judge_select.ensures ∙ c.in_ok-node.was)

pub worklet_in-requires-clause-most : goal.worklet_in-requires-clause-most
worklet_in-requires-clause-most c =
    let s = state_of c.args.standing.now in
    let j = c.args.at.now in
    let tree = subst (λ o. IsTreeAt s j Select (option_copied o)) c.in_ok-links.was c.requires.tree in
    greatest_node s j c.in_ok-links.links.now tree c.in_ok-node.node (ap (where_shallow j) (sym c.judge.ensures) ∙ sym c.judge_select.ensures ∙ c.in_ok-node.was)

pub returns : goal.returns
returns c =
    let s = state_of c.args.standing.now in
    let j = c.args.at.now in
    let tree = subst (λ o. IsTreeAt s j Select (option_copied o)) c.in_ok-links.was c.requires.tree in
    c.worklet_in.ensures
    ∙ worklet_is s j c.in_ok-links.links.now tree c.in_ok-node.node (ap (where_shallow j) (sym c.judge.ensures) ∙ sym c.judge_select.ensures ∙ c.in_ok-node.was)
