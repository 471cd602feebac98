-- Of each step: the node at hand stands in the tree, and the walk goes on at one of its sides.
use Rattle.std.specs.Prelude.{◌<◌, ◌+◌, length, unwrap_or, true, false}
use Rattle.std.proofs.Common.{sym, ◌∙◌, ap, subst, arith}
use Rattle.yw_rdr.proofs.Going.{at_hand, ended, goes_on, left, met_links, rule_number, smaller, unmet_links, within}
use Rattle.yw_state.specs.RuleTree.{if_rule, last_met}
use Rattle.yw_rdr.proofs.tree.last_met.Goals as goal

pub index-node-requires : goal.index-node-requires
index-node-requires g c =
    let within_is : c.in-Some.j < length c.args.nodes.now.items =
    within c.args.nodes.now.items (g.V.Values.values c.args.row.now) c.loop-link.invariant.0 c.in-Some.j c.loop-link.link c.loop-link.invariant.1 c.in-Some.is c.loop-link.invariant.2 in
    omega (arith, within_is, c.args.nodes.now.ok.0)

pub overflow_add-last : goal.overflow_add-last
overflow_add-last g c =
    let within_is : c.in-Some.j < length c.args.nodes.now.items =
    within c.args.nodes.now.items (g.V.Values.values c.args.row.now) c.loop-link.invariant.0 c.in-Some.j c.loop-link.link c.loop-link.invariant.1 c.in-Some.is c.loop-link.invariant.2 in
    omega (arith, within_is, c.requires.most)

pub loop-link-smaller-then-holds : goal.loop-link-smaller-then-holds
loop-link-smaller-then-holds g c =
    let at = c.loop-link.invariant in
    subst (λ o. left (length c.args.nodes.now.items) c.index-node.result.now.met < left (length c.args.nodes.now.items) o) (sym c.in-Some.is)
    (smaller c.args.nodes.now.items c.in-Some.j c.index-node.result.now.met _
    (within c.args.nodes.now.items (g.V.Values.values c.args.row.now) at.0 c.in-Some.j c.loop-link.link at.1 c.in-Some.is at.2)
    (met_links c.args.nodes.now.items (g.V.Values.values c.args.row.now) at.0 c.in-Some.j c.loop-link.link at.1 c.in-Some.is at.2 c.index-node.result.now c.index-node.ensures))

pub loop-link-preserved-then-holds : goal.loop-link-preserved-then-holds
loop-link-preserved-then-holds g c =
    let at = c.loop-link.invariant in
    let here = at_hand c.args.nodes.now.items (g.V.Values.values c.args.row.now) at.0 c.in-Some.j c.loop-link.link at.1 c.in-Some.is at.2 in
    let held = goes_on c.args.nodes.now.items (g.V.Values.values c.args.row.now) at.0 c.in-Some.j c.loop-link.link at.1 c.in-Some.is at.2 c.index-node.result.now c.index-node.ensures
    (unwrap_or c.loop-link.last 0) true (sym c.holds.ensures ∙ c.if-holds.true) in (
      1 + c.in-Some.j,
      here.met,
      met_links c.args.nodes.now.items (g.V.Values.values c.args.row.now) at.0 c.in-Some.j c.loop-link.link at.1 c.in-Some.is at.2 c.index-node.result.now c.index-node.ensures,
      ap if_rule (sym held) ∙ at.3,
      rule_number c.in-Some.j,
    )

pub loop-link-smaller : goal.loop-link-smaller
loop-link-smaller g c =
    let at = c.loop-link.invariant in
    subst (λ o. left (length c.args.nodes.now.items) c.index-node.result.now.unmet < left (length c.args.nodes.now.items) o) (sym c.in-Some.is)
    (smaller c.args.nodes.now.items c.in-Some.j c.index-node.result.now.unmet _
    (within c.args.nodes.now.items (g.V.Values.values c.args.row.now) at.0 c.in-Some.j c.loop-link.link at.1 c.in-Some.is at.2)
    (unmet_links c.args.nodes.now.items (g.V.Values.values c.args.row.now) at.0 c.in-Some.j c.loop-link.link at.1 c.in-Some.is at.2 c.index-node.result.now c.index-node.ensures))

pub loop-link-preserved : goal.loop-link-preserved
loop-link-preserved g c =
    let at = c.loop-link.invariant in
    let here = at_hand c.args.nodes.now.items (g.V.Values.values c.args.row.now) at.0 c.in-Some.j c.loop-link.link at.1 c.in-Some.is at.2 in
    let failed = goes_on c.args.nodes.now.items (g.V.Values.values c.args.row.now) at.0 c.in-Some.j c.loop-link.link at.1 c.in-Some.is at.2 c.index-node.result.now c.index-node.ensures
    (unwrap_or c.loop-link.last 0) false (sym c.holds.ensures ∙ c.if-holds.false) in (
      1 + c.in-Some.j,
      here.unmet,
      unmet_links c.args.nodes.now.items (g.V.Values.values c.args.row.now) at.0 c.in-Some.j c.loop-link.link at.1 c.in-Some.is at.2 c.index-node.result.now c.index-node.ensures,
      ap if_rule (sym failed) ∙ at.3,
      at.4,
    )

pub returns : goal.returns
returns g c =
    let at = c.loop-link.invariant in
    let over = ended c.args.nodes.now.items at.0 c.loop-link.link at.1 c.in_default.is at.2 in
    at.4 ∙ ap (λ t. if_rule (last_met t (g.V.Values.values c.args.row.now) (unwrap_or c.loop-link.last 0))) (sym over) ∙ at.3
