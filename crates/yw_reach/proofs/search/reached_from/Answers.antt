use Rattle.std.proofs.Common.{◌≡◌, List, ℕ, [], subst, arith}
use Rattle.std.proofs.lemmas.List.{nil_from_length}
use Rattle.yw_reach.proofs.SearchLemmas.{Searching, row_marks, row_there, search_ends, search_goes_on}
use Rattle.yw_reach.proofs.search.reached_from.Goals as goal

pub row_at-requires : goal.row_at-requires
row_at-requires c = row_there c.args.count c.args.flows.now _ c.in_ok-rows.ensures c.requires.flows c.args.starts c.pending.search.marks c.requires.starts _ _ _ c.in-Some.ensures.items c.pending.invariant _ c.deref.ensures.value

pub visit_all-requires : goal.visit_all-requires
visit_all-requires c = row_marks c.args.count c.args.flows.now _ c.in_ok-rows.ensures c.requires.flows c.args.starts c.pending.search.marks c.requires.starts _ _ _ c.in-Some.ensures.items c.pending.invariant _ c.deref.ensures.value _ c.row_at.ensures

pub pending-preserved : goal.pending-preserved
pending-preserved c = search_goes_on c.args.count c.args.flows.now _ c.in_ok-rows.ensures c.requires.flows c.args.starts c.pending.search.marks c.requires.starts _ _ _ c.in-Some.ensures.items c.pending.invariant _ c.deref.ensures.value _ c.row_at.ensures _ _ c.in_ok-visit_all.ensures

pub returns : goal.returns
returns c =
    let P : List ℕ → Type 0 = λ ps. Searching c.args.flows.now c.args.starts c.pending.search.marks ps in
    let none : c.pending.search.pending.items ≡ [] = nil_from_length c.pending.search.pending.items (omega (arith, c.in_default.ensures.cases.0, c.pending.search.pending.ok)) in
    search_ends c.args.count c.args.flows.now c.args.starts c.pending.search.marks c.requires.starts (subst P none c.pending.invariant)
