use Rattle.std.proofs.Common.{subst, sym}
use Rattle.std.specs.Option.{option_copied}
use Rattle.yw_deeds.proofs.JudgedSo.{none_chosen, none_judges}
use Rattle.yw_deeds.proofs.judging.is_chosen.Goals as goal
use Rattle.yw_deeds.specs.Judging.{IsTreeAt}
use Rattle.yw_standing.specs.State.{state_of}
use Rattle.yw_state.specs.declared.tree.TreeKind.TheVariants.{Select}

pub is_chosen_by-requires-clause-tree : goal.is_chosen_by-requires-clause-tree
is_chosen_by-requires-clause-tree c = subst (λ o. IsTreeAt (state_of c.args.standing.now) c.args.j.now Select (option_copied o)) c.in-Some.is c.requires.tree

pub returns-in-None : goal.returns-in-None
returns-in-None c =
    let s = state_of c.args.standing.now in
    let j = c.args.j.now in
    sym (none_chosen s j c.args.worklet.now (none_judges s j Select (subst (λ o. IsTreeAt s j Select (option_copied o)) c.in-None.is c.requires.tree)))
