use Rattle.std.proofs.Common.{subst, sym, ◌∙◌}
use Rattle.std.specs.Option.{option_copied}
use Rattle.yw_deeds.proofs.JudgedSo.{linked_judges, none_judges}
use Rattle.yw_deeds.proofs.judging.judge.Goals as goal
use Rattle.yw_deeds.specs.Judging.{IsTreeAt}
use Rattle.yw_standing.specs.State.{state_of}

pub returns-in-Some : goal.returns-in-Some
returns-in-Some c =
    let s = state_of c.args.standing.now in
    let j = c.args.at.now in
    let kind = c.args._kind in
    c.judge_by.ensures ∙ linked_judges s kind c.in-Some.links.now j (subst (λ o. IsTreeAt s j kind (option_copied o)) c.in-Some.is c.requires.tree)

pub returns-in-None : goal.returns-in-None
returns-in-None c =
    let s = state_of c.args.standing.now in
    let j = c.args.at.now in
    let kind = c.args._kind in
    sym (none_judges s j kind (subst (λ o. IsTreeAt s j kind (option_copied o)) c.in-None.is c.requires.tree))
