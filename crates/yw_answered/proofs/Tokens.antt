-- The tokens of a case can be told in order: no two of their rows have one net and one text of a place.
use Rattle.std.specs.Prelude.{◌≡◌, ◌⊎◌, ◌↔◌, ℕ, zero, suc, ◌&&◌, Bool, true, false, T, List, [], ◌∷◌, ◌++◌, map, Option, Some, None, Contains, refl, slice_get}
use Rattle.std.specs.List.{flat_map, list_all}
use Rattle.std.specs.FinMap.Entries.{below_all, is_sorted}
use Rattle.std.specs.Ordering.{eq_by_cmp, is_lt, ordering_then}
use Rattle.std.specs.declared.cmp.Ordering.{Ordering}
use Rattle.std.specs.declared.cmp.Ordering.TheVariants.{Less, Equal, Greater}
use Rattle.std.proofs.Common.{arith, sym, ◌∙◌, ap, subst, inl, inr}
use Rattle.std.proofs.lemmas.Bool.{and_parts, and_from}
use Rattle.yw_texts.proofs.Lacking.{decided, follows, here}
use Rattle.yw_texts.specs.Lacking.{CannotLack}
use Rattle.yw_spec.specs.Net.{place_text}
use Rattle.yw_spec.specs.declared.spec.Net.{Net}
use Rattle.yw_spec.specs.declared.spec.Place.{Place}
use Rattle.yw_state.proofs.Entries.{IsIn, entry-found, find-entry}
use Rattle.yw_state.proofs.MapLemmas.{by_name, by_names, by_test, get-insert_other, get-insert_same, insert_stands, never, nowhere, some_same, tied, tied_self}
use Rattle.yw_state.proofs.Standing.{at_net}
use Rattle.yw_state.specs.Answers.{IsTokenList, IsTokenRow, rises, token_before}
use Rattle.yw_state.specs.Identity.{Ident}
use Rattle.yw_state.specs.Map.{Map, empty, entries, get, insert, lexical, lexical_each}
use Rattle.yw_state.specs.Nets.{place_number}
use Rattle.yw_state.specs.State.{State, Site, NetAt, net_at}
use Rattle.yw_state.specs.declared.answer.TokenRow.{TokenRow}
use Rattle.yw_told.proofs.Written.{place_is_read, place_read}
use Rattle.yw_within.proofs.Finding.{net_within}
use Rattle.yw_within.specs.Within.{HoldsWithin, NetIsWithin, is_named_place}

-- ---- elements of lists

in_left : {A : Type 0} (xs ys : List A) (x : A) → IsIn xs x → IsIn (xs ++ ys) x
in_left [] ys x within = absurd within
in_left (z ∷ xs) ys x (inl same) = inl same
in_left (z ∷ xs) ys x (inr rest) = inr (in_left xs ys x rest)

in_right : {A : Type 0} (xs ys : List A) (x : A) → IsIn ys x → IsIn (xs ++ ys) x
in_right [] ys x within = within
in_right (z ∷ xs) ys x within = inr (in_right xs ys x within)

module _ {A B : Type 0} where
  in_flat : (f : A → List B) (xs : List A) (x : A) (y : B) → IsIn xs x → IsIn (f x) y → IsIn (flat_map f xs) y
  in_flat f [] x y within of = absurd within
  in_flat f (z ∷ zs) x y (inl same) of = in_left (f z) (flat_map f zs) y (subst (λ w. IsIn (f w) y) (sym same) of)
  in_flat f (z ∷ zs) x y (inr rest) of = in_right (f z) (flat_map f zs) y (in_flat f zs x y rest of)

  in_map : (f : A → B) (xs : List A) (x : A) → IsIn xs x → IsIn (map f xs) (f x)
  in_map f [] x within = absurd within
  in_map f (z ∷ zs) x (inl same) = inl (ap f same)
  in_map f (z ∷ zs) x (inr rest) = inr (in_map f zs x rest)

  from_map : (f : A → B) (xs : List A) (y : B) → IsIn (map f xs) y → (x : A) × IsIn xs x × (f x ≡ y)
  from_map f [] y within = absurd within
  from_map f (z ∷ zs) y (inl same) = (z, inl refl, same)
  from_map f (z ∷ zs) y (inr rest) = let found = from_map f zs y rest in (found.0, inr found.1, found.2)

in_at : {A : Type 0} (xs : List A) (k : ℕ) (x : A) → slice_get xs k ≡ Some x → IsIn xs x
in_at [] k x at = nowhere at
in_at (y ∷ ys) zero x at = inl (some_same y x at)
in_at (y ∷ ys) (suc k) x at = inr (in_at ys k x at)

all_at : {A : Type 0} (p : A → Bool) (xs : List A) (k : ℕ) (x : A) → list_all p xs ≡ true → slice_get xs k ≡ Some x → p x ≡ true
all_at p [] k x all at = nowhere at
all_at p (y ∷ ys) zero x all at = ap p (sym (some_same y x at)) ∙ (and_parts (p y) (list_all p ys) all).0
all_at p (y ∷ ys) (suc k) x all at = all_at p ys k x (and_parts (p y) (list_all p ys) all).1 at

contained : {A : Type 0} (xs : List A) (x : A) → IsIn xs x → Contains xs x
contained [] x within = absurd within
contained (y ∷ ys) x (inl same) = (0, omega arith, same)
contained (y ∷ ys) x (inr rest) = let there = contained ys x rest in (suc there.0, omega (arith, there.1), there.2)

found_in : {A : Type 0} (xs : List A) (x : A) → Contains xs x → IsIn xs x
found_in [] x there = absurd (omega (arith, there.1))
found_in (y ∷ ys) x (zero, lt, same) = inl same
found_in (y ∷ ys) x (suc k, lt, same) = inr (found_in ys x (k, omega (arith, lt), same))

-- ---- rows by net and text of a place

abbrev row_key : TokenRow → List (List ℕ)
row_key row = row.net ∷ place_text row.place ∷ []

abbrev Rows : Type 0
Rows = Map lexical_each TokenRow

abbrev Entry : Type 0
Entry = List (List ℕ) × TokenRow

abbrev row_of : Entry → TokenRow
row_of e = e.1

abbrev listed : Rows → List TokenRow
listed m = map row_of (entries m)

then_equal : (o : Ordering) → ordering_then o Equal ≡ o
then_equal Less = refl
then_equal Equal = refl
then_equal Greater = refl

key_before : (a b : TokenRow) → T (is_lt (lexical_each (row_key a) (row_key b))) → token_before a b ≡ true
key_before a b lt =
    is_true (token_before a b) (subst (λ (o : Ordering). T (is_lt (ordering_then (lexical a.net b.net) o))) (then_equal (lexical (place_text a.place) (place_text b.place))) lt)
  where
    is_true : (c : Bool) → T c → c ≡ true
    is_true true h = refl
    is_true false h = absurd h

halves : (a b : Bool) → T (a && b) → T a × T b
halves true b h = (tt, h)
halves false b h = absurd h

in_order : (es : List Entry) → ((e : Entry) → IsIn es e → row_key e.1 ≡ e.0) → T (is_sorted lexical_each es) → rises token_before (map row_of es) ≡ true
in_order [] keyed sorted = refl
in_order (e ∷ []) keyed sorted = refl
in_order (e ∷ f ∷ es) keyed sorted =
    let parts = halves (below_all lexical_each e.0 (f ∷ es)) (is_sorted lexical_each (f ∷ es)) sorted in
    let lt = (halves (is_lt (lexical_each e.0 f.0)) (below_all lexical_each e.0 es) parts.0).0 in
    let at_keys = subst (λ k. T (is_lt (lexical_each k (row_key f.1)))) (sym (keyed e (inl refl))) (subst (λ k. T (is_lt (lexical_each e.0 k))) (sym (keyed f (inr (inl refl)))) lt) in
    and_from _ _ (key_before e.1 f.1 at_keys) (in_order (f ∷ es) (λ g within. keyed g (inr within)) parts.1)

-- ---- no two rows have one key

module _ (s : State) (n : ℕ) (holds : HoldsWithin s) where
  same_place : (net : Net) (p q : Place) (j k : ℕ) → list_all is_named_place net.places ≡ true → slice_get net.places j ≡ Some p → slice_get net.places k ≡ Some q
      → place_text p ≡ place_text q → p ≡ q
  same_place net p q j k named at_p at_q texts =
      sym (place_is_read p (all_at is_named_place net.places j p named at_p)) ∙ ap place_read texts ∙ place_is_read q (all_at is_named_place net.places k q named at_q)

  one_row : (a b : TokenRow) → IsTokenRow s n a → IsTokenRow s n b → row_key a ≡ row_key b → a ≡ b
  one_row a b of_a of_b keys =
      let nets : a.net ≡ b.net = cc in
      let texts : place_text a.place ≡ place_text b.place = cc in
      let same : of_a.net ≡ of_b.net = some_same of_a.net of_b.net (sym of_a.here ∙ ap (net_at s) nets ∙ of_b.here) in
      let within = (net_within s holds a.net of_a.net of_a.here).1 in
      let place_b : slice_get of_a.net.net.places of_b.number ≡ Some b.place = subst (λ (x : NetAt). slice_get x.net.places of_b.number ≡ Some b.place) (sym same) of_b.place in
      let count_b : slice_get of_a.net.part.tokens of_b.number ≡ Some b.count = subst (λ (x : NetAt). slice_get x.part.tokens of_b.number ≡ Some b.count) (sym same) of_b.count in
      let places : a.place ≡ b.place = same_place of_a.net.net a.place b.place of_a.number of_b.number within.place_names of_a.place place_b texts in
      let number_a = within.places of_a.number a.place of_a.place in
      let number_b = within.places of_b.number b.place place_b in
      let numbers : of_a.number ≡ of_b.number = some_same of_a.number of_b.number (sym number_a ∙ ap (place_number of_a.net.net) places ∙ number_b) in
      let counts : a.count ≡ b.count = some_same a.count b.count (sym of_a.count ∙ ap (slice_get of_a.net.part.tokens) numbers ∙ count_b) in
      λ i. record { net = nets i; place = places i; count = counts i }

  -- ---- what may be a row

  abbrev rows_at : Ident → Option NetAt → List TokenRow
  rows_at i None = []
  rows_at i (Some at) = flat_map (λ (p : Place). map (λ (k : ℕ). record { net = i; place = p; count = k }) at.part.tokens) at.net.places

  abbrev rows_of : Ident × Site → List TokenRow
  rows_of e = rows_at e.0 (net_at s e.0)

  abbrev candidates : List TokenRow
  candidates = flat_map rows_of (entries s.sites)

  covered : (row : TokenRow) → IsTokenRow s n row → IsIn candidates row
  covered row is =
      let stands = at_net s row.net is.net is.here in
      let of_place = in_map (λ (k : ℕ). record { net = row.net; place = row.place; count = k }) is.net.part.tokens row.count (in_at is.net.part.tokens is.number row.count is.count) in
      let of_net = in_flat (λ (p : Place). map (λ (k : ℕ). record { net = row.net; place = p; count = k }) is.net.part.tokens) is.net.net.places row.place row
      (in_at is.net.net.places is.number row.place is.place) of_place in
      in_flat rows_of (entries s.sites) (row.net, stands.0) row
      (entry-found by_name (entries s.sites) row.net stands.0 stands.1)
      (subst (λ o. IsIn (rows_at row.net o) row) (sym is.here) of_net)

  -- ---- the rows among them

  -- These are rows, each under its key, and all that are among the candidates.
  record HasThose (cs : List TokenRow) (m : Rows) : Type 0 where
    keyed : (k : List (List ℕ)) (row : TokenRow) → get m k ≡ Some row → (row_key row ≡ k) × IsTokenRow s n row
    all : (row : TokenRow) → IsIn cs row → IsTokenRow s n row → get m (row_key row) ≡ Some row

  put_in : (c : TokenRow) (cs : List TokenRow) (m : Rows) → IsTokenRow s n c → HasThose cs m → HasThose (c ∷ cs) (insert m (row_key c) c)
  put_in c cs m is those = record {
    keyed = λ k row at. elim (insert_stands by_names m (row_key c) c k row at) [
      | inl new ↦ (subst (λ r. row_key r ≡ k) new.1 (sym new.0), subst (IsTokenRow s n) new.1 is)
      | inr old ↦ those.keyed k row old
    ];
    all = λ row among of.
        let again : c ≡ row → get (insert m (row_key c) c) (row_key row) ≡ Some row = λ same. subst (λ r. get (insert m (row_key c) c) (row_key r) ≡ Some r) same (get-insert_same by_names m (row_key c) c) in
        elim among [
          | inl same ↦ again same
          | inr rest ↦ by_test (eq_by_cmp lexical_each (row_key row) (row_key c))
              (λ t. again (one_row c row is of (sym (tied by_names (row_key row) (row_key c) t))))
              (λ f. get-insert_other by_names m (row_key c) c (row_key row) (λ e. differ e f) ∙ those.all row rest of)
        ];
  }
    where
      differ : {q k : List (List ℕ)} → q ≡ k → eq_by_cmp lexical_each q k ≡ false → ⊥
      differ {q} {k} e f = never (sym f ∙ ap (eq_by_cmp lexical_each q) (sym e) ∙ tied_self by_names q)

  left_out : (c : TokenRow) (cs : List TokenRow) (m : Rows) → (IsTokenRow s n c → ⊥) → HasThose cs m → HasThose (c ∷ cs) m
  left_out c cs m isnt those = record {
    keyed = those.keyed;
    all = λ row among of. elim among [ inl same ↦ absurd (isnt (subst (IsTokenRow s n) (sym same) of)) | inr rest ↦ those.all row rest of ];
  }

  can_gather : (cs : List TokenRow) → CannotLack ((m : Rows) × HasThose cs m)
  can_gather [] = here (empty, record { keyed = λ k row at. nowhere at; all = λ row among of. absurd among })
  can_gather (c ∷ cs) = follows (can_gather cs) (λ r. follows (decided (IsTokenRow s n c)) (λ d. here (elim d [
    | inl is ↦ (insert r.0 (row_key c) c, put_in c cs r.0 is r.1)
    | inr isnt ↦ (r.0, left_out c cs r.0 isnt r.1)
  ])))

  is_list : (m : Rows) → HasThose candidates m → IsTokenList s n (listed m)
  is_list m those = record {
    ordered = in_order (entries m) (λ e within. (those.keyed e.0 e.1 (find-entry by_names (entries m) e m.sorted within)).0) m.sorted;
    exact = λ row. (
      (λ there.
          let found = from_map row_of (entries m) row (found_in (listed m) row there) in
          subst (IsTokenRow s n) found.2 (those.keyed found.0.0 found.0.1 (find-entry by_names (entries m) found.0 m.sorted found.1)).1),
      (λ is.
          contained (listed m) row (in_map row_of (entries m) (row_key row, row) (entry-found by_names (entries m) (row_key row) row (those.all row (covered row is) is)))),
    );
  }

  pub tokens_are_listed : CannotLack ((rows : List TokenRow) × IsTokenList s n rows)
  tokens_are_listed = follows (can_gather candidates) (λ r. here (listed r.0, is_list r.0 r.1))
