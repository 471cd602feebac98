use Rattle.std.proofs.Common.{◌≡◌, None, Some, sym, ap, ◌∙◌}
use Rattle.yw_tree.specs.Forest.{item_of}
use Rattle.yw_tree.specs.Ways.{net_in, net_of_item}
use Rattle.yw_tree.specs.declared.Node.{out-Node}
use Rattle.yw_tree.proofs.Attached.{item_attached, no_net}
use Rattle.yw_tree.proofs.ForestLaw.{identity_in_case}
use Rattle.yw_tree.proofs.Lent.{item_lent}
use Rattle.yw_base.proofs.Parents.{identity_long}
use Rattle.yw_tree.proofs.grow.attach_to_item.Goals as goal

pub item_by-requires : goal.item_by-requires
item_by-requires c = identity_long c.args.id.now c.requires.identity

pub returns-in-Some-clause-sites : goal.returns-in-Some-clause-sites
returns-in-Some-clause-sites c =
    let f = c.args.forest.now in
    let id = c.args.id.now in
    let old = c.in-Some.item.now in
    let e : item_of f id ≡ Some old = sym (rw c.in-Some.is at c.item_by.ensures.value) in
    let none : net_in (out-Node old).net ≡ None = ap net_of_item (sym e) ∙ c.requires.vacant in
    (item_attached f id c.args.net c.requires.well c.requires.empty old c.set_item_net.new.node (item_lent f id (identity_in_case id c.requires.identity) c.requires.boxed old e) (no_net (out-Node old).net none) c.set_item_net.ensures).0

pub returns-in-Some-clause-kept : goal.returns-in-Some-clause-kept
returns-in-Some-clause-kept c =
    let f = c.args.forest.now in
    let id = c.args.id.now in
    let old = c.in-Some.item.now in
    let e : item_of f id ≡ Some old = sym (rw c.in-Some.is at c.item_by.ensures.value) in
    let none : net_in (out-Node old).net ≡ None = ap net_of_item (sym e) ∙ c.requires.vacant in
    (item_attached f id c.args.net c.requires.well c.requires.empty old c.set_item_net.new.node (item_lent f id (identity_in_case id c.requires.identity) c.requires.boxed old e) (no_net (out-Node old).net none) c.set_item_net.ensures).1
