use Rattle.std.proofs.Common.{sym, ◌∙◌}
use Rattle.yw_deeds.proofs.JudgedSo.{chosen_as, linked_judges, most_node, none_chosen, some_node}
use Rattle.yw_deeds.proofs.judging.is_chosen_by.Goals as goal
use Rattle.yw_standing.specs.State.{state_of}
use Rattle.yw_state.specs.declared.tree.TreeKind.TheVariants.{Select}

pub conclusion-requires-clause-some : goal.conclusion-requires-clause-some
conclusion-requires-clause-some c =
    let s = state_of c.args.standing.now in
    let j = c.args.j.now in
    let ks = c.args.tree.now in
    some_node s Select ks j c.requires.tree c.in-Some.node (sym (linked_judges s Select ks j c.requires.tree) ∙ sym c.in-Some.ensures)

pub conclusion-requires-clause-most : goal.conclusion-requires-clause-most
conclusion-requires-clause-most c =
    let s = state_of c.args.standing.now in
    let j = c.args.j.now in
    let ks = c.args.tree.now in
    most_node s Select ks j c.requires.tree c.in-Some.node (sym (linked_judges s Select ks j c.requires.tree) ∙ sym c.in-Some.ensures)

pub returns-in-Some : goal.returns-in-Some
returns-in-Some c =
    let s = state_of c.args.standing.now in
    let j = c.args.j.now in
    let ks = c.args.tree.now in
    c.is_worklet.ensures
    ∙ sym (chosen_as s j c.args.worklet.now ks c.in-Some.node c.requires.tree (sym (linked_judges s Select ks j c.requires.tree) ∙ sym c.in-Some.ensures)
    c.conclusion.result.now c.conclusion.ensures)

pub returns-in-None : goal.returns-in-None
returns-in-None c =
    let s = state_of c.args.standing.now in
    let j = c.args.j.now in
    sym (none_chosen s j c.args.worklet.now (sym (linked_judges s Select c.args.tree.now j c.requires.tree) ∙ sym c.in-None.ensures))
