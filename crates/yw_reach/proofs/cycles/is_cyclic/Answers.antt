use Rattle.std.proofs.Common.{◌≡◌, [], arith}
use Rattle.std.proofs.lemmas.List.{nil_from_length}
use Rattle.yw_reach.proofs.TrimmingLemmas.{trim_begins, trim_ends, trim_enough, trim_goes_on, trim_there}
use Rattle.yw_reach.proofs.cycles.is_cyclic.Goals as goal

pub row_at-requires : goal.row_at-requires
row_at-requires c = trim_there c.args.count c.args.flows.now _ c.in_ok-rows.ensures _ _ _ _ c.in-Some.ensures.items c.free.invariant _ c.deref-in-Some.ensures.value

pub free-init : goal.free-init
free-init c = trim_begins c.args.count c.args.flows.now _ c.deref.result.now _ c.requires c.in_ok-incoming.ensures.len c.in_ok-incoming.ensures.counts c.deref.ensures.value c.in_ok-free.ensures.within c.in_ok-free.ensures.once

pub lower_all-requires : goal.lower_all-requires
lower_all-requires c = trim_enough c.args.count c.args.flows.now _ c.in_ok-rows.ensures _ _ _ _ c.in-Some.ensures.items c.free.invariant _ c.deref-in-Some.ensures.value _ c.row_at.ensures

pub free-preserved : goal.free-preserved
free-preserved c = trim_goes_on c.args.count c.args.flows.now _ c.in_ok-rows.ensures _ _ _ _ c.in-Some.ensures.items c.free.invariant _ c.deref-in-Some.ensures.value _ c.row_at.ensures c.requires _ _ c.in_ok-lower_all.ensures

pub returns : goal.returns
returns c =
    let none : c.free.trimming.free.items ≡ [] = nil_from_length c.free.trimming.free.items (omega (arith, c.in_default.ensures.cases.0, c.free.trimming.free.ok)) in
    trim_ends c.args.count c.args.flows.now _ _ none c.free.invariant _ c.deref-2.ensures.value _ c.is_any_left.ensures
