-- From a part that has changed to what the whole forest means.
use Rattle.std.proofs.Common.{Bool, List, None, Some, [], ap, cond, false, refl, subst, sym, true, ℕ, ◌++◌, ◌∙◌, ◌∷◌, ◌≡◌}
use Rattle.std.specs.BTreeMap.{is_at}
use Rattle.std.specs.FinMap.Entries.{is_sorted}
use Rattle.std.specs.Ordering.{nat_cmp}
use Rattle.std.specs.Prelude.{T}
use Rattle.yw_sites.proofs.Each.{Each-append, Each-front, each_mid, each_rest}
use Rattle.yw_sites.proofs.Parts.{drop_law}
use Rattle.yw_sites.proofs.Prefix.{under_refl}
use Rattle.yw_sites.specs.Entries.{Entries, AllUnder, Swaps}
use Rattle.yw_sites.specs.Idents.{Each}
use Rattle.yw_state.proofs.MapLemmas.{by_number, tied_self}
use Rattle.yw_state.proofs.Tests.{by_option, by_test, never, nowhere}
use Rattle.yw_state.specs.Identity.{case_ident}
use Rattle.yw_state.specs.State.{drop}
use Rattle.yw_tree.proofs.Keys.{case_keys}
use Rattle.yw_tree.proofs.Table.{all, all-append, cases_apart, in_table, others, sorted_less}
use Rattle.yw_tree.specs.Boxed.{IsBoxed, IsBoxedCase}
use Rattle.yw_tree.specs.Cases.{CaseList, case_at, without_case}
use Rattle.yw_tree.specs.Entries.{case_entries}
use Rattle.yw_tree.specs.Forest.{IsForest, entries, sites_of}
use Rattle.yw_tree.specs.declared.Case.{Case}
use Rattle.yw_tree.specs.declared.Forest.{Forest}

-- ---- a case goes
pub none_at : (n : ℕ) (cs : CaseList) → case_at n cs ≡ None → (without_case n cs ≡ cs) × Each (λ (f : ℕ × Case). f.0 ≡ n → ⊥) cs
none_at n [] e = (refl, tt)
none_at n (x ∷ cs) e =
    by_test (is_at (nat_cmp n) x.0)
    (λ (t : is_at (nat_cmp n) x.0 ≡ true). nowhere (sym (ap (λ (b : Bool). cond b (Some x.1) (case_at n cs)) (sym t) ∙ e)))
    (λ (t : is_at (nat_cmp n) x.0 ≡ false).
    let r = none_at n cs (ap (λ (b : Bool). cond b (Some x.1) (case_at n cs)) (sym t) ∙ e) in
    (ap (λ (b : Bool). cond b cs (x ∷ without_case n cs)) t ∙ ap (λ z. x ∷ z) r.0, (λ s. never (sym t ∙ ap (λ z. is_at (nat_cmp n) z) s ∙ tied_self by_number n), r.1)))

abbrev Well : ℕ × Case → Type 0
Well e = (e.1.id ≡ case_ident e.0) × IsBoxedCase e.1

pub case_cut : (names : ℕ → List ℕ) (n : ℕ) (f g : Forest) → IsForest f → g.cases ≡ without_case n f.cases → (sites_of names g ≡ drop (sites_of names f) (case_ident n)) × IsForest g
case_cut names n f g b is =
    by_option (case_at n f.cases)
    (λ (e : case_at n f.cases ≡ None).
    let r = none_at n f.cases e in
    let same : g.cases ≡ f.cases = is ∙ r.0 in
    let s : Swaps (case_ident n) [] [] (entries names f) (entries names g) = record { front = entries names f; back = []; before = sym (nil (entries names f)); after = ap (all names) same ∙ sym (nil (entries names f)); front_apart = cases_apart names (case_ident n) n (under_refl (case_ident n)) f.cases b.1 r.1; back_apart = tt } in
    (drop_law (case_ident n) [] (entries names f) (entries names g) s tt, subst IsBoxed (sym same) b))
    (λ (c : Case) (e : case_at n f.cases ≡ Some c).
    let r = in_table n f.cases c e in
    let sorted = subst (λ z. T (is_sorted nat_cmp z)) r.whole b.0 in
    let each = subst (Each Well) r.whole b.1 in
    let o = others r.front (n, c) r.back sorted in
    let mid = each_mid Well r.front (n, c) r.back each in
    let front = Each-front Well r.front ((n, c) ∷ r.back) each in
    let back = each_rest Well r.front (n, c) r.back each in
    let s : Swaps (case_ident n) (case_entries names c) [] (entries names f) (entries names g) = record {
      front = all names r.front;
      back = all names r.back;
      before = ap (all names) r.whole ∙ all-append names r.front ((n, c) ∷ r.back);
      after = ap (all names) (is ∙ r.gone) ∙ all-append names r.front r.back;
      front_apart = cases_apart names (case_ident n) n (under_refl (case_ident n)) r.front front o.0;
      back_apart = cases_apart names (case_ident n) n (under_refl (case_ident n)) r.back back o.1;
    } in (
      drop_law (case_ident n) (case_entries names c) (entries names f) (entries names g) s (subst (λ z. AllUnder z (case_entries names c)) mid.0 (case_keys names c mid.1)),
      subst IsBoxed (sym (is ∙ r.gone)) (sorted_less (n, c) r.front r.back sorted, Each-append Well r.front r.back front back),
    ))
  where
    nil : (xs : Entries) → xs ++ [] ≡ xs
    nil [] = refl
    nil (x ∷ xs) = ap (λ r. x ∷ r) (nil xs)
