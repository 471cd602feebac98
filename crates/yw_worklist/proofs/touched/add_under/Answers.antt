use Rattle.std.proofs.Common.{ap, sym, ◌∙◌}
use Rattle.std.proofs.lemmas.Bool.{and_from}
use Rattle.std.proofs.lemmas.Map.Iter.{rest_all, rest_more}
use Rattle.std.specs.Map.{keys_of}
use Rattle.std.specs.Map.Iter.{deref_pair}
use Rattle.yw_state.specs.Identity.{same}
use Rattle.yw_worklist.proofs.Ranging.{ahead_more, is_under_gone, none_beyond, range_begins, takes_all, takes_more, takes_stop, under_placed}
use Rattle.yw_worklist.proofs.touched.add_under.Goals as goal
use Rattle.yw_worklist.specs.Touched.{is_gone}

pub loop-at-init : goal.loop-at-init
loop-at-init c =
    range_begins c.args.top.now c.args.places.now c.args.forest.now c.args.ids.now c.into_iter-at-iterator.result
    (c.into_iter-at-iterator.ensures.into_iter_gives ∙ c.range-at-items.ensures.between tt) c.range-at-items.ensures.ordered

pub loop-at-preserved : goal.loop-at-preserved
loop-at-preserved c =
    let top = c.args.top.now in
    let p = c.args.places.now in
    let f = c.args.forest.now in
    let turn = ap keys_of (rest_more deref_pair c.loop-at.at-iterator c.next.new.self c.next.result _ c.in-Some.is c.next.ensures.steps) in
    let left = keys_of c.loop-at.at-iterator in
    let rest = keys_of c.next.new.self in
    let at = c.in-Some.at.now in (
      takes_more (under_placed top p f) c.args.ids.now c.loop-at.ids c.add_gone.new.ids at left rest turn c.loop-at.invariant.0 c.in_ok-add_gone.ensures.was
          (λ j identity e here. c.in_ok-add_gone.ensures.passing j identity (and_from (same j at) (is_gone f j) here (is_under_gone top p f j e))),
      ahead_more top at left rest turn c.loop-at.invariant.1,
    )

pub returns-then-not-is_under : goal.returns-then-not-is_under
returns-then-not-is_under c =
    let top = c.args.top.now in
    let p = c.args.places.now in
    let f = c.args.forest.now in
    let turn = ap keys_of (rest_more deref_pair c.loop-at.at-iterator c.next.new.self c.next.result _ c.in-Some.is c.next.ensures.steps) in
    let left = keys_of c.loop-at.at-iterator in
    let rest = keys_of c.next.new.self in
    let off = sym c.is_under.ensures ∙ c.if-not-is_under.true in
    takes_stop (under_placed top p f) c.args.ids.now c.loop-at.ids left
    (none_beyond top p f c.in-Some.at.now left rest turn c.loop-at.invariant.1 off) c.loop-at.invariant.0

pub returns : goal.returns
returns c =
    let none = ap keys_of (rest_all deref_pair c.loop-at.at-iterator c.next.new.self c.next.result c.in-None.is c.next.ensures.steps) in
    takes_all (under_placed c.args.top.now c.args.places.now c.args.forest.now) c.args.ids.now c.loop-at.ids (keys_of c.loop-at.at-iterator) none
    c.loop-at.invariant.0
