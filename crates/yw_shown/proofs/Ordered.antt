-- The identities of a case, sorted, are those of its entries in the state's map, in their order.
use Rattle.std.proofs.Common.{◌≡◌, ◌∙◌, ℕ, Bool, true, false, List, [], ◌∷◌, ◌++◌, Some, map, ap, refl, subst, sym}
use Rattle.std.proofs.lemmas.Bool.{eq-eqb, eqb-true}
use Rattle.std.specs.FinMap.Entries.{below_all, is_sorted}
use Rattle.std.specs.List.{AllByRecursion, IsDistinct}
use Rattle.std.specs.Ordering.{eq_by_cmp, is_lt}
use Rattle.std.specs.Prelude.{T, ◌==◌, ◌&&◌, filter, if◌then◌else◌}
use Rattle.std.proofs.lemmas.List.Elements.{All-contains}
use Rattle.yw_base.specs.Identity.{case_number}
use Rattle.yw_idents.proofs.Listed.{all_listed}
use Rattle.yw_idents.specs.Idents.{AreAllIn, idents_of}
use Rattle.yw_sites.specs.Entries.{Entries, Entry, Unique}
use Rattle.yw_sites.specs.Idents.{Each}
use Rattle.yw_state.proofs.Entries.{IsIn, entry-found, find-entry}
use Rattle.yw_state.proofs.MapEntries.{get-of_entries}
use Rattle.yw_state.proofs.MapLemmas.{apart, by_name}
use Rattle.yw_state.specs.Answers.{of_case}
use Rattle.yw_state.specs.Identity.{Ident}
use Rattle.yw_state.specs.Map.{entries, get, lexical}
use Rattle.yw_state.specs.State.{Site, State}
use Rattle.yw_tree.proofs.Asked.{unique_forest}
use Rattle.yw_tree.proofs.Table.{all, all-append, in_table}
use Rattle.yw_tree.specs.Cases.{case_at}
use Rattle.yw_tree.specs.Entries.{case_entries}
use Rattle.yw_tree.specs.Forest.{IsForest, sites_of}
use Rattle.yw_tree.specs.Forest as forest
use Rattle.yw_tree.specs.declared.Case.{Case}
use Rattle.yw_tree.specs.declared.Forest.{Forest}
use Rattle.yw_shown.proofs.Elements.{contained, found_in, from_filter, from_map, in_filter, in_left, in_map, in_right}
use Rattle.yw_shown.proofs.Keys.{found_some}
use Rattle.yw_shown.proofs.Rising.{Rises, same_list}

-- ---- the map's entries rise

both : (a b : Bool) → T (a && b) → T a × T b
both true b h = (tt, h)
both false b h = absurd h

is_true : (b : Bool) → T b → b ≡ true
is_true true h = refl
is_true false h = absurd h

-- those that pass stand above what all stand above
above_kept : (k : Ident) (p : Entry → Bool) (es : Entries) → T (below_all lexical k es)
    → Each (λ y. is_lt (lexical k y) ≡ true) (map (λ (e : Entry). e.0) (filter p es))
above_kept k p [] h = tt
above_kept k p (e ∷ es) h =
    let parts = both (is_lt (lexical k e.0)) (below_all lexical k es) h in
    let rest = above_kept k p es parts.1 in
    elim (p e) as (λ b. Each (λ y. is_lt (lexical k y) ≡ true) (map (λ (f : Entry). f.0) (if b then e ∷ filter p es else filter p es)))
    [ true ↦ (is_true _ parts.0, rest) | false ↦ rest ]

pub kept_rise : (p : Entry → Bool) (es : Entries) → T (is_sorted lexical es) → Rises by_name (map (λ (e : Entry). e.0) (filter p es))
kept_rise p [] h = tt
kept_rise p (e ∷ es) h =
    let parts = both (below_all lexical e.0 es) (is_sorted lexical es) h in
    let rest = kept_rise p es parts.1 in
    elim (p e) as (λ b. Rises by_name (map (λ (f : Entry). f.0) (if b then e ∷ filter p es else filter p es)))
    [ true ↦ (above_kept e.0 p es parts.0, rest) | false ↦ rest ]

-- ---- the boxes' entries stand at distinct identities

apart_ids : (k : Ident) (es : Entries) → Each (λ (f : Entry). f.0 ≡ k → ⊥) es → AllByRecursion (λ j. eq_by_cmp lexical k j ≡ false) (idents_of es)
apart_ids k [] h = tt
apart_ids k (e ∷ es) h = (apart by_name k e.0 (λ same. h.0 (sym same)), apart_ids k es h.1)

pub distinct_ids : (es : Entries) → Unique es → IsDistinct (eq_by_cmp lexical) (idents_of es)
unfolding IsDistinct
distinct_ids [] h = tt
distinct_ids (e ∷ es) h = (apart_ids e.0 es h.0, distinct_ids es h.1)

each_front : {A : Type 0} (Q : A → Type 0) (xs ys : List A) → Each Q (xs ++ ys) → Each Q xs
each_front Q [] ys h = tt
each_front Q (x ∷ xs) ys h = (h.0, each_front Q xs ys h.1)

unique_front : (es fs : Entries) → Unique (es ++ fs) → Unique es
unique_front [] fs h = tt
unique_front (e ∷ es) fs h = (each_front _ es fs h.0, unique_front es fs h.1)

unique_back : (es fs : Entries) → Unique (es ++ fs) → Unique fs
unique_back [] fs h = h
unique_back (e ∷ es) fs h = unique_back es fs h.1

module _ (names : ℕ → List ℕ) (f : Forest) (s : State) (n : ℕ) (c : Case) (boxed : IsForest f) (sites : s.sites ≡ sites_of names f) (at : case_at n f.cases ≡ Some c) where
  abbrev here : Entries
  here = case_entries names c

  -- the case's entries among all
  record Among : Type 0 where
    front : Entries
    back : Entries
    whole : forest.entries names f ≡ front ++ (here ++ back)

  among : Among
  among =
      let t = in_table n f.cases c at in
      record {
        front = all names t.front;
        back = all names t.back;
        whole = ap (all names) t.whole ∙ all-append names t.front ((n, c) ∷ t.back);
      }

  unique_here : Unique here
  unique_here = unique_front here among.back (unique_back among.front (here ++ among.back) (subst Unique among.whole (unique_forest names f boxed)))

  stands_here : (j : Ident) → IsIn (idents_of here) j → (x : Site) × (get s.sites j ≡ Some x)
  stands_here j within =
      let e = from_map (λ (e : Entry). e.0) here j within in
      let wide = in_map (λ (e : Entry). e.0) (forest.entries names f) e.0 (subst (λ es. IsIn es e.0) (sym among.whole) (in_right among.front (here ++ among.back) e.0 (in_left here among.back e.0 e.1))) in
      let there = found_some (forest.entries names f) j (subst (IsIn (idents_of (forest.entries names f))) e.2 wide) in
      (there.0, ap (λ m. get m j) sites ∙ get-of_entries by_name (forest.entries names f) j ∙ there.1)

  abbrev shown_ids : List Ident
  shown_ids = map (λ (e : Entry). e.0) (of_case s n)

  are : AreAllIn s n (idents_of here)
  are = all_listed names f boxed s sites n c at

  module _ where
    number_here : (j : Ident) → IsIn (idents_of here) j → case_number j ≡ n
    number_here j within = All-contains (λ i. case_number i ≡ n) (idents_of here) j are.of_case (contained (idents_of here) j within)

    to_map : (j : Ident) → IsIn (idents_of here) j → IsIn shown_ids j
    to_map j within =
        let there = stands_here j within in
        in_map (λ (e : Entry). e.0) (of_case s n) (j, there.0)
        (in_filter (λ (e : Entry). case_number e.0 == n) (entries s.sites) (j, there.0) (entry-found by_name (entries s.sites) j there.0 there.1)
        (eq-eqb (case_number j) n (number_here j within)))

    to_boxes : (j : Ident) → IsIn shown_ids j → IsIn (idents_of here) j
    to_boxes j within =
        let e = from_map (λ (e : Entry). e.0) (of_case s n) j within in
        let kept = from_filter (λ (e : Entry). case_number e.0 == n) (entries s.sites) e.0 e.1 in
        let stands = find-entry by_name (entries s.sites) e.0 s.sites.sorted kept.0 in
        subst (IsIn (idents_of here)) e.2 (found_in (idents_of here) e.0.0 (are.all e.0.0 e.0.1 stands (eqb-true (case_number e.0.0) n kept.1)))

    -- they are the same where they rise
    pub ids_are : (js : List Ident) → Rises by_name js → ((j : Ident) → IsIn js j → IsIn (idents_of here) j) → ((j : Ident) → IsIn (idents_of here) j → IsIn js j) → js ≡ shown_ids
    ids_are js up there back =
        same_list by_name js shown_ids up (kept_rise (λ (e : Entry). case_number e.0 == n) (entries s.sites) s.sites.sorted)
        (λ j within. to_map j (there j within)) (λ j within. back j (to_boxes j within))

  pub distinct_here : IsDistinct (eq_by_cmp lexical) (idents_of here)
  distinct_here = distinct_ids here unique_here
