-- A case is urgent, as the definitions ask of all that stands, exactly where its boxes are.
use Rattle.std.proofs.Common.{Bool, List, None, Some, [], ap, false, subst, sym, true, ℕ, ◌++◌, ◌∙◌, ◌∷◌, ◌≡◌}
use Rattle.std.proofs.lemmas.Bool.{eq-eqb, eqb-true, false_from_ne_true}
use Rattle.std.proofs.lemmas.List.Folds.{list_any-append}
use Rattle.std.specs.FinMap.Entries.{is_sorted}
use Rattle.std.specs.List.{list_any}
use Rattle.std.specs.Ordering.{nat_cmp}
use Rattle.std.specs.Prelude.{T, is_some, not, ◌&&◌, ◌==◌, ◌||◌}
use Rattle.yw_base.specs.Identity.{under, case_number}
use Rattle.yw_sites.proofs.Each.{Each-append, Each-front, each_mid, each_rest}
use Rattle.yw_sites.proofs.HeldAlong.{any_same, each_by, each_of}
use Rattle.yw_sites.proofs.Prefix.{under_refl}
use Rattle.yw_sites.specs.Entries.{AllUnder, Entries, Entry}
use Rattle.yw_sites.specs.Idents.{Each}
use Rattle.yw_state.proofs.Tests.{by_option}
use Rattle.yw_state.specs.Identity.{case_ident, is_child}
use Rattle.yw_state.specs.State.{State}
use Rattle.yw_state.specs.Words.{any_due, busy, is_at_work, urgent}
use Rattle.yw_tree.proofs.Asked.{some_site_is}
use Rattle.yw_tree.proofs.Keys.{case_keys}
use Rattle.yw_tree.proofs.Lift.{none_at}
use Rattle.yw_tree.proofs.Table.{all, all-append, cases_apart, in_table, number_under, others}
use Rattle.yw_tree.proofs.UrgentWalk.{any_none, case_urgent, or_none, urgent_alone, urgent_entry}
use Rattle.yw_tree.specs.Boxed.{IsBoxedCase}
use Rattle.yw_tree.specs.Cases.{CaseList, case_at}
use Rattle.yw_tree.specs.Entries.{case_entries}
use Rattle.yw_tree.specs.Forest.{IsForest, entries, sites_of}
use Rattle.yw_tree.specs.Holding.{urgent_at}
use Rattle.yw_tree.specs.declared.Case.{Case}
use Rattle.yw_tree.specs.declared.Forest.{Forest}

module _ (names : ℕ → List ℕ) (n : ℕ) (among : Entries) where
  abbrev Well : ℕ × Case → Type 0
  Well e = (e.1.id ≡ case_ident e.0) × IsBoxedCase e.1

  -- urgent, and of the case
  abbrev pub urgent_of : Entry → Bool
  urgent_of e = case_number e.0 == n && urgent_entry among e

  of_other : (m : ℕ) → (m ≡ n → ⊥) → (es : Entries) → AllUnder (case_ident m) es → Each (λ (e : Entry). urgent_of e ≡ false) es
  of_other m ne es u = each_by (λ (e : Entry). under e.0 (case_ident m) ≡ true) (λ (e : Entry). urgent_of e ≡ false) (λ e t.
      let off : case_number e.0 == n ≡ false = false_from_ne_true _ (λ h. ne (sym (number_under e.0 m t) ∙ eqb-true (case_number e.0) n h)) in
      ap (λ z. z && urgent_entry among e) off) es u

  of_others : (cs : CaseList) → Each Well cs → Each (λ (f : ℕ × Case). f.0 ≡ n → ⊥) cs → Each (λ (e : Entry). urgent_of e ≡ false) (all names cs)
  of_others [] b o = tt
  of_others (c ∷ cs) b o =
      Each-append (λ (e : Entry). urgent_of e ≡ false) (case_entries names c.1) (all names cs)
      (of_other c.0 o.0 (case_entries names c.1) (subst (λ z. AllUnder z (case_entries names c.1)) b.0.0 (case_keys names c.1 b.0.1))) (of_others cs b.1 o.1)

  of_this : (es : Entries) → AllUnder (case_ident n) es → list_any urgent_of es ≡ list_any (urgent_entry among) es
  of_this es u = any_same urgent_of (urgent_entry among) es (each_by (λ (e : Entry). under e.0 (case_ident n) ≡ true) (λ (e : Entry). urgent_of e ≡ urgent_entry among e)
      (λ e t. ap (λ z. z && urgent_entry among e) (eq-eqb (case_number e.0) n (number_under e.0 n t))) es u)

module _ (names : ℕ → List ℕ) (f : Forest) (b : IsForest f) (n : ℕ) where
  in_boxes : list_any (urgent_of names n (entries names f)) (entries names f) ≡ urgent_at (case_at n f.cases)
  in_boxes =
      let w = entries names f in
      by_option (case_at n f.cases)
      (λ (g : case_at n f.cases ≡ None). any_none (urgent_of names n w) w (of_others names n w f.cases b.1 (none_at n f.cases g).1) ∙ sym (ap urgent_at g))
      (λ (c : Case) (g : case_at n f.cases ≡ Some c).
      let q = in_table n f.cases c g in
      let p = urgent_of names n w in
      let each = subst (Each (Well names n w)) q.whole b.1 in
      let o = others q.front (n, c) q.back (subst (λ z. T (is_sorted nat_cmp z)) q.whole b.0) in
      let wells_front = Each-front (Well names n w) q.front ((n, c) ∷ q.back) each in
      let wells_back = each_rest (Well names n w) q.front (n, c) q.back each in
      let mid = each_mid (Well names n w) q.front (n, c) q.back each in
      let fs = all names q.front in
      let bs = all names q.back in
      let es = case_entries names c in
      let keys = subst (λ z. AllUnder z es) mid.0 (case_keys names c mid.1) in
      let whole : w ≡ fs ++ (es ++ bs) = ap (all names) q.whole ∙ all-append names q.front ((n, c) ∷ q.back) in
      let front : list_any p fs ≡ false = any_none p fs (of_others names n w q.front wells_front o.0) in
      let back : list_any p bs ≡ false = any_none p bs (of_others names n w q.back wells_back o.1) in
      let here : list_any p es ≡ urgent_at (Some c) =
      of_this names n w es keys ∙ ap (λ z. list_any (urgent_entry z) es) whole
      ∙ urgent_alone (case_ident n) fs es bs keys (cases_apart names (case_ident n) n (under_refl (case_ident n)) q.front wells_front o.0) (cases_apart names (case_ident n) n (under_refl (case_ident n)) q.back wells_back o.1)
      ∙ case_urgent names c mid.1 in
      ap (list_any p) whole ∙ list_any-append p fs (es ++ bs) ∙ ap (λ z. z || list_any p (es ++ bs)) front ∙ list_any-append p es bs
      ∙ ap (λ z. list_any p es || z) back ∙ or_none (list_any p es) ∙ here ∙ sym (ap urgent_at g))

  pub urgent_is : (s : State) → s.sites ≡ sites_of names f → urgent s n ≡ urgent_at (case_at n f.cases)
  urgent_is s is =
      let w = entries names f in
      some_site_is names s f (λ j x. case_number j == n && (any_due x.due && not (busy s j) || is_at_work x.run)) b is
      ∙ any_same (λ (e : Entry). case_number e.0 == n && (any_due e.1.due && not (busy s e.0) || is_at_work e.1.run)) (urgent_of names n w) w
      (each_of (λ (e : Entry). (case_number e.0 == n && (any_due e.1.due && not (busy s e.0) || is_at_work e.1.run)) ≡ urgent_of names n w e)
      (λ e. ap (λ z. case_number e.0 == n && (any_due e.1.due && not z || is_at_work e.1.run)) (some_site_is names s f (λ r x. is_some x.run && is_child r e.0) b is)) w)
      ∙ in_boxes
