-- The identities of a case's entries are those of all that stands in the case.
use Rattle.std.proofs.Common.{List, None, Some, [], ap, cond, false, refl, subst, sym, true, ℕ, ◌++◌, ◌∙◌, ◌∷◌, ◌≡◌, ◌≤◌, length, arith}
use Rattle.std.proofs.lemmas.List.Elements.{All-cons, All-nil, Contains-append_right, Contains-get_or}
use Rattle.std.specs.FinMap.Entries.{is_sorted}
use Rattle.std.specs.List.{All, Contains}
use Rattle.std.specs.Ordering.{eq_by_cmp, nat_cmp}
use Rattle.std.specs.Prelude.{T}
use Rattle.yw_base.specs.Identity.{under, case_number}
use Rattle.yw_idents.specs.Idents.{AreAllIn, idents_of}
use Rattle.yw_sites.proofs.Each.{Each-front, each_rest}
use Rattle.yw_sites.proofs.Prefix.{under_refl}
use Rattle.yw_sites.proofs.Swaps.{at, at_apart, at_skip, at_stop, at_under}
use Rattle.yw_sites.specs.Entries.{AllUnder, Entries}
use Rattle.yw_sites.specs.Idents.{Each}
use Rattle.yw_state.proofs.MapEntries.{get-of_entries}
use Rattle.yw_state.proofs.MapLemmas.{by_name, tied}
use Rattle.yw_state.proofs.Tests.{by_test, nowhere}
use Rattle.yw_state.specs.Identity.{Ident, case_ident}
use Rattle.yw_state.specs.Map.{get, lexical}
use Rattle.yw_state.specs.State.{Site, State}
use Rattle.yw_state.specs.Well.{Stands}
use Rattle.yw_tree.proofs.CaseLaw.{its}
use Rattle.yw_tree.proofs.ForestLaw.{in_case}
use Rattle.yw_tree.proofs.Keys.{case_keys}
use Rattle.yw_tree.proofs.Lift.{none_at}
use Rattle.yw_tree.proofs.Table.{all, all-append, cases_apart, in_table, number_under, others}
use Rattle.yw_tree.specs.Boxed.{IsBoxedCase}
use Rattle.yw_tree.specs.Cases.{CaseList, case_at}
use Rattle.yw_tree.specs.Entries.{case_entries}
use Rattle.yw_tree.specs.Forest.{IsForest, entries, sites_of}
use Rattle.yw_tree.specs.declared.Case.{Case}
use Rattle.yw_tree.specs.declared.Forest.{Forest}

-- what is found among entries is among their identities
found_listed : (q : Ident) (es : Entries) (x : Site) → at q es ≡ Some x → Contains (idents_of es) q
found_listed q [] x e = nowhere e
found_listed q (f ∷ es) x e =
    by_test (eq_by_cmp lexical q f.0)
    (λ (t : eq_by_cmp lexical q f.0 ≡ true). subst (Contains (f.0 ∷ idents_of es)) (sym (tied by_name q f.0 t))
    (Contains-get_or (f.0 ∷ idents_of es) 0 q (omega arith)))
    (λ (t : eq_by_cmp lexical q f.0 ≡ false).
    Contains-append_right (f.0 ∷ []) (idents_of es) q (found_listed q es x (ap (λ b. cond b (Some f.1) (at q es)) (sym t) ∙ e)))

-- what lies under a case has its number
numbers : (n : ℕ) (es : Entries) → AllUnder (case_ident n) es → All (λ j. case_number j ≡ n) (idents_of es)
numbers n [] h = All-nil (λ j. case_number j ≡ n)
numbers n (e ∷ es) h = All-cons (λ j. case_number j ≡ n) e.0 (idents_of es) (number_under e.0 n h.0) (numbers n es h.1)

module _ (names : ℕ → List ℕ) where
  abbrev Well : ℕ × Case → Type 0
  Well e = (e.1.id ≡ case_ident e.0) × IsBoxedCase e.1

  -- nothing stands at no numbers
  none_empty : (cs : CaseList) → Each Well cs → at [] (all names cs) ≡ None
  none_empty [] b = refl
  none_empty (c ∷ cs) b =
      at_skip [] (case_entries names c.1) (all names cs)
      (at_under [] (case_ident c.0) (case_entries names c.1)
      (subst (λ z. AllUnder z (case_entries names c.1)) b.0.0 (case_keys names c.1 b.0.1)) refl)
      ∙ none_empty cs b.1

  module _ (f : Forest) (b : IsForest f) (s : State) (is : s.sites ≡ sites_of names f) where
    found : (q : Ident) → get s.sites q ≡ at q (entries names f)
    found q = ap (λ m. get m q) is ∙ get-of_entries by_name (entries names f) q

    long : (q : Ident) (x : Site) → Stands s q x → 1 ≤ length q
    long [] x st = nowhere (sym (found [] ∙ none_empty f.cases b.1) ∙ st)
    long (k ∷ q) x st = omega arith

    pub none_stands : (n : ℕ) → case_at n f.cases ≡ None → (q : Ident) (x : Site) → Stands s q x → case_number q ≡ n → ⊥
    none_stands n e q x st num =
        let within = in_case q (long q x st) in
        let none : case_at (case_number q) f.cases ≡ None = ap (λ k. case_at k f.cases) num ∙ e in
        nowhere (sym
        (found q ∙ at_apart q q (entries names f)
        (cases_apart names q (case_number q) within f.cases b.1 (none_at (case_number q) f.cases none).1) (under_refl q)) ∙ st)

    module _ (n : ℕ) (c : Case) (e : case_at n f.cases ≡ Some c) where
      listed : (q : Ident) (x : Site) → Stands s q x → case_number q ≡ n → at q (case_entries names c) ≡ Some x
      listed q x st num =
          let within = subst (λ k. under q (case_ident k) ≡ true) num (in_case q (long q x st)) in
          let t = in_table n f.cases c e in
          let each = subst (Each Well) t.whole b.1 in
          let o = others t.front (n, c) t.back (subst (λ z. T (is_sorted nat_cmp z)) t.whole b.0) in
          let front = at_apart q q (all names t.front)
          (cases_apart names q n within t.front (Each-front Well t.front ((n, c) ∷ t.back) each) o.0) (under_refl q) in
          let back = at_apart q q (all names t.back) (cases_apart names q n within t.back (each_rest Well t.front (n, c) t.back each) o.1)
          (under_refl q) in
          let whole : at q (entries names f) ≡ at q (case_entries names c) =
          ap (λ z. at q (all names z)) t.whole ∙ ap (at q) (all-append names t.front ((n, c) ∷ t.back))
          ∙ at_skip q (all names t.front) (case_entries names c ++ all names t.back) front ∙ at_stop q (case_entries names c)
          (all names t.back) back in
          sym whole ∙ sym (found q) ∙ st

      pub all_listed : AreAllIn s n (idents_of (case_entries names c))
      all_listed =
          let i = its names f b n c e in
          record {
            all = λ q x st num. found_listed q (case_entries names c) x (listed q x st num);
            of_case = numbers n (case_entries names c) (subst (λ z. AllUnder z (case_entries names c)) i.0 (case_keys names c i.1));
          }
