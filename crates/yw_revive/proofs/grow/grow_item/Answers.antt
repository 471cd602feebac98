use Rattle.std.proofs.Common.{◌≡◌, ◌∙◌, Option, Some, IsSomeAnd, ap, refl, subst}
use Rattle.yw_revive.proofs.ComesLast.{may_come, no_names, no_parent}
use Rattle.yw_revive.proofs.Hanging.{came, grown_with, item_bare, item_stands}
use Rattle.yw_revive.proofs.grow.grow_item.Goals as goal
use Rattle.yw_revive.specs.Grown.{AttachesNet}
use Rattle.yw_state.specs.Identity.{Ident}
use Rattle.yw_state.specs.Map.{get}
use Rattle.yw_tree.specs.Coming.{HasTask}
use Rattle.yw_tree.specs.Entries.{item_site, net_part_of}
use Rattle.yw_tree.specs.Forest.{sites_of}
use Rattle.yw_tree.specs.declared.NetState.{NetState}
use Rattle.yw_tree.specs.declared.Node.{out-Node}

pub returns-in_default : goal.returns-in_default
returns-in_default c = (refl, λ is some. no_parent (out-Node c.args.node).id c.in_ok-above.field-0 c.in_ok-above.ensures c.in_default.not-Some is)

pub add_item-requires-clause-comes : goal.add_item-requires-clause-comes
add_item-requires-clause-comes c =
    may_come c.args.forest.now c.in-Some.above c.args.node c.in_ok-above.field-0 c.requires.boxed c.requires.last c.requires.without_net c.requires.without_run
    c.in_ok-above.ensures c.in-Some.is
    (subst (λ (o : Option NetState). IsSomeAnd o (HasTask (out-Node c.args.node).task)) c.net.ensures (c.if-not-has_task.ensures.0 refl))

pub attach_to_item-requires-clause-stands : goal.attach_to_item-requires-clause-stands
attach_to_item-requires-clause-stands c =
    let old = c.args.forest.now in
    let mid = c.add_item.new.self in
    let node = c.args.node in
    item_stands mid c.in_ok-add_item.ensures.kept c.in_ok-id.id c.numbers.ensures.identity no_names (item_site no_names node)
    (ap (get (sites_of no_names mid)) c.in_ok-id.ensures
    ∙ came old mid (out-Node node).id (λ names. item_site names node) c.in_ok-add_item.ensures.sites) refl

pub attach_to_item-requires-clause-vacant : goal.attach_to_item-requires-clause-vacant
attach_to_item-requires-clause-vacant c =
    let old = c.args.forest.now in
    let mid = c.add_item.new.self in
    let node = c.args.node in
    item_bare mid c.in_ok-add_item.ensures.kept c.in_ok-id.id c.numbers.ensures.identity no_names (item_site no_names node)
    (ap (get (sites_of no_names mid)) c.in_ok-id.ensures
    ∙ came old mid (out-Node node).id (λ names. item_site names node) c.in_ok-add_item.ensures.sites)
    (ap (net_part_of no_names) c.requires.without_net)

pub returns : goal.returns
returns c =
    let node = c.args.node in
    grown_with c.args.forest.now c.add_item.new.self c.attach_to_item.new.forest (out-Node node).id (λ names. item_site names node) c.args.net
    c.requires.last c.in_ok-add_item.ensures.sites
    (subst (λ (i : Ident). AttachesNet c.add_item.new.self i c.args.net c.attach_to_item.new.forest) c.in_ok-id.ensures c.attach_to_item.ensures.sites)
    c.attach_to_item.ensures.kept
