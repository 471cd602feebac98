use Rattle.std.proofs.Common.{◌≡◌, subst, sym}
use Rattle.std.proofs.lemmas.List.Sorted.{Contains-permutation, IsPermutation-map, IsPermutation-sym}
use Rattle.std.specs.Borrow.{Bor}
use Rattle.std.specs.List.{IsDistinct}
use Rattle.std.specs.Ordering.{eq_by_cmp}
use Rattle.yw_idents.specs.Idents.{idents_of, lent}
use Rattle.yw_shown.proofs.Elements.{contained, found_in}
use Rattle.yw_shown.proofs.Ordered.{distinct_here, ids_are}
use Rattle.yw_shown.proofs.Rising.{after_sort}
use Rattle.yw_shown.proofs.walk.ordered_idents.Goals as goal
use Rattle.yw_state.proofs.Entries.{IsIn}
use Rattle.yw_state.proofs.MapLemmas.{by_name}
use Rattle.yw_state.specs.Identity.{Ident}
use Rattle.yw_state.specs.Map.{lexical}
use Rattle.yw_tree.specs.Entries.{case_entries}

pub returns : goal.returns
returns c = λ names f s n boxed sites at.
    let key : Bor Ident → Ident = λ b. b.now in
    let before = c.in_ok-idents.idents.items in
    let after = c.sort.new.self.items in
    let listed : lent before ≡ idents_of (case_entries names c.args.case.now) = c.in_ok-idents.ensures names in
    let moved = c.in_ok-sort.ensures.permutation in
    let here = idents_of (case_entries names c.args.case.now) in
    ids_are names f s n c.args.case.now boxed sites at (lent after)
    (after_sort by_name key before after moved c.in_ok-sort.ensures.sorted
    (subst (IsDistinct (eq_by_cmp lexical)) (sym listed) (distinct_here names f s n c.args.case.now boxed sites at)))
    (λ j within. subst (λ js. IsIn js j) listed (found_in (lent before) j
    (Contains-permutation (lent after) (lent before) j (IsPermutation-sym (lent before) (lent after) (IsPermutation-map key before after moved)) (contained (lent after) j within))))
    (λ j within. found_in (lent after) j
    (Contains-permutation (lent before) (lent after) j (IsPermutation-map key before after moved) (contained (lent before) j (subst (λ js. IsIn js j) (sym listed) within))))
