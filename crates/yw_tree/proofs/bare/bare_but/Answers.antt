use Rattle.std.proofs.Common.{◌≡◌, [], Some, ap, subst, sym, ◌∙◌}
use Rattle.yw_base.specs.Identity.{parent}
use Rattle.yw_tree.specs.Becomes.{BaresBut}
use Rattle.yw_tree.specs.Forest.{IsForest, item_of, item_replaced}
use Rattle.yw_tree.proofs.BaredBut.{bared_but_run}
use Rattle.yw_tree.proofs.Parents.{parent_there}
use Rattle.yw_tree.proofs.bare.bare_but.Goals as goal

pub item_by-requires : goal.item_by-requires
item_by-requires c = rw c.parent.ensures (parent_there c.args.id.now c.requires.long c.requires.below)

pub returns-in-Some-clause-sites : goal.returns-in-Some-clause-sites
returns-in-Some-clause-sites c =
    let f = c.args.forest.now in
    let id = c.args.id.now in
    let old = c.in-Some.node.now in
    let w = c.end_net.new.node in
    let e : item_of f (parent id) ≡ Some old = ap (item_of f) (sym c.parent.ensures) ∙ sym (rw c.in-Some.is at c.item_by.ensures.value) in
    let now : item_replaced f c.parent.result.now w ≡ item_replaced f (parent id) w = ap (λ j. item_replaced f j w) c.parent.ensures in
    subst (λ z. BaresBut f z (parent id) id) (sym now) (λ names. (bared_but_run f id c.requires.alone c.requires.at_item c.requires.boxed c.requires.long old w e c.end_net.ensures names).0)

pub returns-in-Some-clause-kept : goal.returns-in-Some-clause-kept
returns-in-Some-clause-kept c =
    let f = c.args.forest.now in
    let id = c.args.id.now in
    let old = c.in-Some.node.now in
    let w = c.end_net.new.node in
    let e : item_of f (parent id) ≡ Some old = ap (item_of f) (sym c.parent.ensures) ∙ sym (rw c.in-Some.is at c.item_by.ensures.value) in
    let now : item_replaced f c.parent.result.now w ≡ item_replaced f (parent id) w = ap (λ j. item_replaced f j w) c.parent.ensures in
    subst IsForest (sym now) (bared_but_run f id c.requires.alone c.requires.at_item c.requires.boxed c.requires.long old w e c.end_net.ensures (λ k. [])).1
