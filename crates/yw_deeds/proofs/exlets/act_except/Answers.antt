use Rattle.std.proofs.Common.{subst, ◌+◌, ◌∙◌}
use Rattle.std.specs.Option.{option_copied}
use Rattle.yw_standing.proofs.Trying.{fits_below}
use Rattle.yw_deeds.proofs.ExletsGo.{except_concludes, except_fits, except_may, except_wanted, excepted}
use Rattle.yw_deeds.proofs.JudgedSo.{exlet_is, judged_node, most_node, some_node}
use Rattle.yw_deeds.proofs.exlets.act_except.Goals as goal
use Rattle.yw_deeds.specs.Judging.{IsTreeAt}
use Rattle.yw_standing.specs.State.{state_of}

pub unreachable-requires : goal.unreachable-requires
unreachable-requires c =
    let h = c.args.standing.now in
    let j = c.args.at.now in
    let kind = c.args.check in
    except_wanted h c.requires.held j kind c.args.node c.args.n c.requires.leads
    (subst (λ o. IsTreeAt (state_of h) j kind (option_copied o)) c.in_default.is c.requires.tree)

pub exlet_of-exlet-requires-clause-some : goal.exlet_of-exlet-requires-clause-some
exlet_of-exlet-requires-clause-some c =
    let h = c.args.standing.now in
    let s = state_of h in
    let j = c.args.at.now in
    let kind = c.args.check in
    let tree = subst (λ o. IsTreeAt s j kind (option_copied o)) c.in-Some.is c.requires.tree in
    let concluded = judged_node s j kind c.args.node (except_concludes h c.requires.held j kind c.args.node c.args.n c.requires.leads) in
    some_node s kind c.in-Some.links.now j tree c.args.node concluded

pub exlet_of-exlet-requires-clause-most : goal.exlet_of-exlet-requires-clause-most
exlet_of-exlet-requires-clause-most c =
    let h = c.args.standing.now in
    let s = state_of h in
    let j = c.args.at.now in
    let kind = c.args.check in
    let tree = subst (λ o. IsTreeAt s j kind (option_copied o)) c.in-Some.is c.requires.tree in
    let concluded = judged_node s j kind c.args.node (except_concludes h c.requires.held j kind c.args.node c.args.n c.requires.leads) in
    most_node s kind c.in-Some.links.now j tree c.args.node concluded

pub except-requires-clause-may : goal.except-requires-clause-may
except-requires-clause-may c = except_may c.args.standing.now c.requires.held c.args.at.now c.args.check c.args.node c.args.n c.requires.leads

pub overflow_add-standing : goal.overflow_add-standing
overflow_add-standing c =
    fits_below (c.args.n + 1) (except_fits c.args.standing.now c.requires.held c.args.at.now c.args.check c.args.node c.args.n c.requires.leads)

pub returns : goal.returns
returns c =
    let h = c.args.standing.now in
    let s = state_of h in
    let j = c.args.at.now in
    let kind = c.args.check in
    let node = c.args.node in
    let tree = subst (λ o. IsTreeAt s j kind (option_copied o)) c.in-Some.is c.requires.tree in
    let concluded = judged_node s j kind node (except_concludes h c.requires.held j kind node c.args.n c.requires.leads) in
    excepted h c.requires.held j kind node c.args.n c.requires.leads c.except.new.forest c.exlet_of-exlet.result.now
    (c.exlet_of-exlet.ensures ∙ exlet_is s kind c.in-Some.links.now j tree node concluded)
    (c.in_ok-except.ensures.ok node)
