-- A walk over a case's entries in order: what each adds, and what is shown at its end.
use Rattle.std.proofs.Common.{◌≡◌, ◌∙◌, ◌<◌, ◌+◌, ℕ, zero, suc, Bool, true, false, List, [], ◌∷◌, ◌++◌, Some, None, map, length, get_or, take, ap, arith, inl, inr, refl, subst, sym}
use Rattle.std.proofs.lemmas.Bool.{and_parts, eqb-true, eq-eqb}
use Rattle.std.proofs.lemmas.List.{map-append, take_more}
use Rattle.std.proofs.lemmas.List.Concat.{flat_map-append}
use Rattle.std.proofs.lemmas.List.Elements.{Contains-get_or, filter-append, filter_map-append}
use Rattle.std.specs.Borrow.{Bor}
use Rattle.std.specs.List.{Contains, filter, filter_map, flat_map}
use Rattle.std.specs.Ordering.{is_lt, ordering_then}
use Rattle.std.specs.Prelude.{◌&&◌, ◌==◌}
use Rattle.std.specs.declared.cmp.Ordering.{Ordering}
use Rattle.std.specs.declared.cmp.Ordering.TheVariants.{Less, Equal, Greater}
use Rattle.yw_base.specs.Identity.{case_number}
use Rattle.yw_idents.proofs.Listed.{none_stands}
use Rattle.yw_idents.specs.Idents.{lent}
use Rattle.yw_sites.proofs.Each.{nil_right}
use Rattle.yw_sites.specs.Idents.{Each}
use Rattle.yw_state.proofs.Entries.{IsIn, entry-found, find-entry}
use Rattle.yw_state.proofs.MapLemmas.{by_name, never}
use Rattle.yw_state.proofs.Standing.{at_net}
use Rattle.yw_state.specs.Answers.{IsShown, IsTokenRow, due_rows, item_row, net_row, of_case, rises, run_row, token_before}
use Rattle.yw_state.specs.Identity.{Ident}
use Rattle.yw_state.specs.Map.{entries, get, lexical}
use Rattle.yw_state.specs.State.{Site, State}
use Rattle.yw_state.specs.Well.{Stands}
use Rattle.yw_state.specs.declared.answer.Shown.{Shown}
use Rattle.yw_state.specs.declared.answer.TokenRow.{TokenRow}
use Rattle.yw_tree.specs.Cases.{case_at}
use Rattle.yw_tree.specs.Forest.{IsForest, sites_of}
use Rattle.yw_tree.specs.declared.Forest.{Forest}
use Rattle.yw_shown.proofs.Elements.{contained, found_in, from_filter, from_map, in_filter, in_left, in_map, in_one, in_right}
use Rattle.yw_shown.proofs.Ordered.{kept_rise}
use Rattle.yw_shown.proofs.Rising.{Rises}
use Rattle.yw_shown.specs.Shows.{AddsEntry, AddsTokens, AreTokensOf, Entry, ShowsEntries, no_rows, suspended_in}

-- ---- rows in order

both_hold : (a b : Bool) → a ≡ true → b ≡ true → (a && b) ≡ true
both_hold true b x y = y
both_hold false b x y = never x

module _ {A : Type 0} (before : A → A → Bool) where
  -- two lists in order, all of the first before all of the second
  pub rises_both : (xs ys : List A) → rises before xs ≡ true → rises before ys ≡ true → ((x y : A) → IsIn xs x → IsIn ys y → before x y ≡ true)
      → rises before (xs ++ ys) ≡ true
  rises_both [] ys a b c = b
  rises_both (x ∷ []) [] a b c = refl
  rises_both (x ∷ []) (y ∷ ys) a b c = both_hold (before x y) (rises before (y ∷ ys)) (c x y (inl refl) (inl refl)) b
  rises_both (x ∷ z ∷ xs) ys a b c =
      let parts = and_parts (before x z) (rises before (z ∷ xs)) a in
      both_hold (before x z) (rises before (z ∷ (xs ++ ys))) parts.0 (rises_both (z ∷ xs) ys parts.1 b (λ u v within. c u v (inr within)))

first_decides : (o p : Ordering) → is_lt o ≡ true → is_lt (ordering_then o p) ≡ true
first_decides Less p h = refl
first_decides Equal p h = never h
first_decides Greater p h = never h

no_element : {A : Type 0} (xs : List A) → ((x : A) → IsIn xs x → ⊥) → xs ≡ []
no_element [] none = refl
no_element (x ∷ xs) none = absurd (none x (inl refl))

-- ---- the entries before one are below it

abbrev pub ids : List Entry → List Ident
ids es = map (λ (e : Entry). e.0) es

abbrev pub AllBelow : List Entry → Ident → Type 0
AllBelow es j = (k : Ident) → IsIn (ids es) k → is_lt (lexical k j) ≡ true

each_below : (k : Ident) (es : List Entry) (i : ℕ) (e : Entry) → Each (λ j. is_lt (lexical k j) ≡ true) (ids es) → i < length es → e ≡ get_or es i e
    → is_lt (lexical k e.0) ≡ true
each_below k [] i e h lt at = absurd (omega (arith, lt))
each_below k (f ∷ es) zero e h lt at = subst (λ (g : Entry). is_lt (lexical k g.0) ≡ true) (sym at) h.0
each_below k (f ∷ es) (suc i) e h lt at = each_below k es i e h.1 (omega (arith, lt)) at

pub before_below : (es : List Entry) (i : ℕ) (e : Entry) → Rises by_name (ids es) → i < length es → e ≡ get_or es i e → AllBelow (take i es) e.0
before_below [] i e up lt at = absurd (omega (arith, lt))
before_below (f ∷ es) zero e up lt at = λ k within. absurd within
before_below (f ∷ es) (suc i) e up lt at = λ k within.
    elim within [
      | inl same ↦ subst (λ j. is_lt (lexical j e.0) ≡ true) same (each_below f.0 es i e up.0 (omega (arith, lt)) at)
      | inr rest ↦ before_below es i e up.1 (omega (arith, lt)) at k rest
    ]

-- ---- one entry more

module _ (s : State) where
  module _ (es : List Entry) (e : Entry) (below : AllBelow es e.0) where
    abbrev more : List Entry
    more = es ++ (e ∷ [])

    ids_more : ids more ≡ ids es ++ (e.0 ∷ [])
    ids_more = map-append (λ (f : Entry). f.0) es (e ∷ [])

    tokens_more : (old new : List TokenRow) → AreTokensOf s es old → AddsTokens s e.0 old new → AreTokensOf s more new
    tokens_more old new are adds = subst (AreTokensOf s more) (sym adds.behind) (record {
      ordered = rises_both token_before old adds.more are.ordered adds.are.ordered
          (λ x y in_old in_new.
          let low = below x.net (found_in (ids es) x.net ((are.exact x).0 (contained old x in_old)).0) in
          let at : y.net ≡ e.0 = ((adds.are.exact y).0 (contained adds.more y in_new)).0 in
          first_decides (lexical x.net y.net) _ (subst (λ k. is_lt (lexical x.net k) ≡ true) (sym at) low));
      exact = λ row. (
        (λ there. elim (in_one old adds.more row (found_in (old ++ adds.more) row there)) [
          | inl left ↦ let is = (are.exact row).0 (contained old row left) in
              (subst (λ ks. Contains ks row.net) (sym ids_more) (contained (ids es ++ (e.0 ∷ [])) row.net (in_left (ids es) (e.0 ∷ []) row.net (found_in (ids es) row.net is.0))), is.1)
          | inr right ↦ let is = (adds.are.exact row).0 (contained adds.more row right) in (
            subst (λ ks. Contains ks row.net) (sym ids_more) (contained (ids es ++ (e.0 ∷ [])) row.net (in_right (ids es) (e.0 ∷ []) row.net (inl (sym is.0)))),
            subst (λ k. IsTokenRow s (case_number k) row) (sym is.0) is.1,
          )
        ]),
        (λ is. contained (old ++ adds.more) row (elim (in_one (ids es) (e.0 ∷ []) row.net (subst (λ ks. IsIn ks row.net) ids_more (found_in (ids more) row.net is.0))) [
          | inl left ↦ in_left old adds.more row (found_in old row ((are.exact row).1 (contained (ids es) row.net left, is.1)))
          | inr right ↦ in_right old adds.more row (found_in adds.more row ((adds.are.exact row).1 (elim right [
            | inl same ↦ (sym same, subst (λ k. IsTokenRow s (case_number k) row) (sym same) is.1)
            | inr none ↦ absurd none
          ])))
        ])),
      );
    })

    pub entry_added : (x y : Shown) → ShowsEntries s es x → AddsEntry s e x y → ShowsEntries s more y
    entry_added x y shows adds = record {
      due = adds.due ∙ ap (λ z. z ++ due_rows e) shows.due ∙ sym (flat_map-append due_rows es (e ∷ []) ∙ ap (λ z. flat_map due_rows es ++ z) (nil_right (due_rows e)));
      items = adds.items ∙ ap (λ z. z ++ filter_map (item_row s) (e ∷ [])) shows.items ∙ sym (filter_map-append (item_row s) es (e ∷ []));
      nets = adds.nets ∙ ap (λ z. z ++ filter_map (net_row s) (e ∷ [])) shows.nets ∙ sym (filter_map-append (net_row s) es (e ∷ []));
      runs = adds.runs ∙ ap (λ z. z ++ filter_map run_row (e ∷ [])) shows.runs ∙ sym (filter_map-append run_row es (e ∷ []));
      suspended = adds.suspended ∙ ap (λ z. z ++ suspended_in (e ∷ [])) shows.suspended
          ∙ sym (ap ids (filter-append (λ (f : Entry). f.1.suspended) es (e ∷ []))
          ∙ map-append (λ (f : Entry). f.0) (filter (λ (f : Entry). f.1.suspended) es) (filter (λ (f : Entry). f.1.suspended) (e ∷ [])));
      tokens = tokens_more x.tokens y.tokens shows.tokens adds.tokens;
    }

  -- the next of all entries
  pub next_added : (es : List Entry) (i : ℕ) (e : Entry) (x y : Shown) → Rises by_name (ids es) → i < length es → e ≡ get_or es i e
      → ShowsEntries s (take i es) x → AddsEntry s e x y → ShowsEntries s (take (i + 1) es) y
  next_added es i e x y up lt at shows adds =
      subst (λ fs. ShowsEntries s fs y) (sym (take_more es i e lt ∙ ap (λ g. take i es ++ (g ∷ [])) (sym at)))
      (entry_added (take i es) e (before_below es i e up lt at) x y shows adds)

  -- ---- the end

  pub all_shown : (n : ℕ) (x : Shown) → ShowsEntries s (of_case s n) x → IsShown s n x
  all_shown n x shows = record {
    due = shows.due;
    items = shows.items;
    nets = shows.nets;
    runs = shows.runs;
    suspended = shows.suspended;
    tokens = record {
      ordered = shows.tokens.ordered;
      exact = λ row. (
        (λ there.
            let is = (shows.tokens.exact row).0 there in
            let e = from_map (λ (f : Entry). f.0) (of_case s n) row.net (found_in (ids (of_case s n)) row.net is.0) in
            let kept = from_filter (λ (f : Entry). case_number f.0 == n) (entries s.sites) e.0 e.1 in
            subst (λ m. IsTokenRow s m row) (ap case_number (sym e.2) ∙ eqb-true (case_number e.0.0) n kept.1) is.1),
        (λ is.
            let there = at_net s row.net is.net is.here in
            let within = in_filter (λ (f : Entry). case_number f.0 == n) (entries s.sites) (row.net, there.0)
            (entry-found by_name (entries s.sites) row.net there.0 there.1) (eq-eqb (case_number row.net) n is.in_case) in
            (shows.tokens.exact row).1 (
              contained (ids (of_case s n)) row.net (in_map (λ (f : Entry). f.0) (of_case s n) (row.net, there.0) within),
              subst (λ m. IsTokenRow s m row) (sym is.in_case) is,
            )),
      );
    };
  }

  pub none_shown : ShowsEntries s [] no_rows
  none_shown = record {
    due = refl;
    items = refl;
    nets = refl;
    runs = refl;
    suspended = refl;
    tokens = record { ordered = refl; exact = λ row. ((λ there. absurd (found_in [] row there)), (λ is. absurd (found_in [] row.net is.0))) };
  }

  -- the case's entries rise
  pub next_shown : (n i : ℕ) (e : Entry) (x y : Shown) → i < length (of_case s n) → e ≡ get_or (of_case s n) i e
      → ShowsEntries s (take i (of_case s n)) x → AddsEntry s e x y → ShowsEntries s (take (i + 1) (of_case s n)) y
  next_shown n i e x y lt at shows adds =
      next_added (of_case s n) i e x y (kept_rise (λ (f : Entry). case_number f.0 == n) (entries s.sites) s.sites.sorted) lt at shows adds

  nothing_in : (n : ℕ) → ((e : Entry) → IsIn (of_case s n) e → ⊥) → of_case s n ≡ []
  nothing_in n none = no_element (of_case s n) none

  pub no_case_shown_here : (n : ℕ) → ((j : Ident) (x : Site) → Stands s j x → case_number j ≡ n → ⊥) → IsShown s n no_rows
  no_case_shown_here n none =
      let empty : of_case s n ≡ [] =
      nothing_in n (λ e within.
      let kept = from_filter (λ (f : Entry). case_number f.0 == n) (entries s.sites) e within in
      none e.0 e.1 (find-entry by_name (entries s.sites) e s.sites.sorted kept.0) (eqb-true (case_number e.0) n kept.1)) in
      all_shown n no_rows (subst (λ es. ShowsEntries s es no_rows) (sym empty) none_shown)

pub no_case_shown : (names : ℕ → List ℕ) (f : Forest) (s : State) (n : ℕ) → IsForest f → s.sites ≡ sites_of names f → case_at n f.cases ≡ None → IsShown s n no_rows
no_case_shown names f s n boxed sites none = no_case_shown_here s n (λ j x st num. none_stands names f boxed s sites n none j x st num)

-- ---- the entry at an identity of the list

both_at : (bs : List (Bor Ident)) (es : List Entry) (i : ℕ) (b : Bor Ident) → lent bs ≡ ids es → i < length bs → b ≡ get_or bs i b
    → (e : Entry) × (i < length es) × (e ≡ get_or es i e) × (e.0 ≡ b.now)
both_at [] es i b same lt at = absurd (omega (arith, lt))
both_at (c ∷ bs) [] i b same lt at = cc
both_at (c ∷ bs) (e ∷ es) zero b same lt at =
    let head : c.now ≡ e.0 = cc in
    (e, omega arith, refl, sym (ap (λ (z : Bor Ident). z.now) at ∙ head))
both_at (c ∷ bs) (e ∷ es) (suc i) b same lt at =
    let rest : lent bs ≡ ids es = cc in
    let there = both_at bs es i b rest (omega (arith, lt)) at in
    (there.0, omega (arith, there.1), there.2, there.3)

pub entry_at : (s : State) (n : ℕ) (bs : List (Bor Ident)) (i : ℕ) (b : Bor Ident) → lent bs ≡ ids (of_case s n) → i < length bs → b ≡ get_or bs i b
    → (e : Entry) × (i < length (of_case s n)) × (e ≡ get_or (of_case s n) i e) × (e.0 ≡ b.now) × (get s.sites e.0 ≡ Some e.1)
entry_at s n bs i b same lt at =
    let there = both_at bs (of_case s n) i b same lt at in
    let within : IsIn (of_case s n) there.0 = subst (IsIn (of_case s n)) (sym there.2) (found_in (of_case s n) _ (Contains-get_or (of_case s n) i there.0 there.1)) in
    let kept = from_filter (λ (f : Entry). case_number f.0 == n) (entries s.sites) there.0 within in
    (there.0, there.1, there.2, there.3, find-entry by_name (entries s.sites) there.0 s.sites.sorted kept.0)
