use Rattle.std.proofs.Common.{subst, sym, ◌∙◌}
use Rattle.std.proofs.lemmas.Map.Iter.{rest_all, rest_more}
use Rattle.std.specs.BTreeMap as tree
use Rattle.std.specs.Map.Iter.{deref}
use Rattle.yw_state.specs.Identity.{Ident, same}
use Rattle.yw_worklist.proofs.Ranging.{Takes, placed_key, takes_all, takes_more, takes_none}
use Rattle.yw_worklist.proofs.touched.add_placed.Goals as goal
use Rattle.yw_worklist.specs.Lists.{has_place}
use Rattle.yw_worklist.specs.Touched.{Adds}

pub loop-at-init : goal.loop-at-init
loop-at-init c =
    let p = c.args.places.now in
    let old = c.args.ids.now in
    subst (Takes old old (has_place p)) (sym (c.into_iter-at-iterator.ensures.into_iter_gives ∙ c.keys-at-items.ensures.rest)) (takes_none (has_place p) old (tree.keys p) (placed_key p))

pub loop-at-preserved : goal.loop-at-preserved
loop-at-preserved c =
    let turn = rest_more deref c.loop-at.at-iterator c.next.new.self c.next.result c.in-Some.at c.in-Some.is c.next.ensures.steps in
    let adds = subst (λ (i : Ident). Adds c.loop-at.ids c.add.new.ids (λ j. same j i)) c.in_ok-copy.ensures c.in_ok-add.ensures in
    takes_more (has_place c.args.places.now) c.args.ids.now c.loop-at.ids c.add.new.ids c.in-Some.at.now c.loop-at.at-iterator c.next.new.self turn
    c.loop-at.invariant adds.was (λ j identity e here. adds.passing j identity here)

pub returns : goal.returns
returns c =
    let none = rest_all deref c.loop-at.at-iterator c.next.new.self c.next.result c.in-None.is c.next.ensures.steps in
    takes_all (has_place c.args.places.now) c.args.ids.now c.loop-at.ids c.loop-at.at-iterator none c.loop-at.invariant
