-- The rows of a net's marked places are its tokens, in order.
use Rattle.std.proofs.Common.{◌≡◌, ◌∙◌, ◌≤◌, ℕ, zero, suc, Bool, true, List, [], ◌∷◌, ◌++◌, Some, None, map, min, ap, arith, inl, inr, refl, subst, sym, append_assoc}
use Rattle.std.proofs.lemmas.Bool.{and_parts}
use Rattle.std.proofs.lemmas.List.Elements.{All-contains}
use Rattle.std.specs.List.{All, list_all, zip}
use Rattle.std.specs.List.Sorted.{IsStrictlySortedBy}
use Rattle.std.specs.Ordering.{is_lt, ordering_then}
use Rattle.std.specs.Prelude.{◌&&◌, codes, slice_get, string_bytes}
use Rattle.std.specs.declared.cmp.Ordering.{Ordering}
use Rattle.std.specs.declared.cmp.Ordering.TheVariants.{Equal, Less}
use Rattle.std.proofs.lemmas.Cmp.{tied_itself}
use Rattle.yw_accept.proofs.Places.{around_arrow}
use Rattle.yw_base.specs.Identity.{case_number}
use Rattle.yw_base.specs.Spelling.{is_name, is_word_byte}
use Rattle.yw_spec.specs.Net.{arrow_text, place_text}
use Rattle.yw_spec.specs.declared.spec.Net.{Net}
use Rattle.yw_spec.specs.declared.spec.Place.{Place}
use Rattle.yw_spec.specs.declared.spec.Place.TheVariants as places
use Rattle.yw_state.proofs.Entries.{IsIn}
use Rattle.yw_state.proofs.MapLemmas.{by_name, never, some_same}
use Rattle.yw_state.specs.Allowed.{most_tokens}
use Rattle.yw_state.specs.Answers.{IsTokenRow, rises, token_before}
use Rattle.yw_state.specs.Identity.{Ident}
use Rattle.yw_state.specs.Map.{lexical}
use Rattle.yw_state.specs.Nets.{place_number}
use Rattle.yw_state.specs.State.{NetAt, State, net_at}
use Rattle.yw_state.specs.declared.answer.TokenRow.{TokenRow}
use Rattle.yw_within.specs.Within.{is_named_place}
use Rattle.yw_shown.proofs.Elements.{contained, found_in, from_map}
use Rattle.yw_shown.specs.Shows.{AreTokensAt}
use Rattle.yw_shown.specs.Tokens.{AreMarked, Counted, IsCounted, KnownByText, Text, row_of, rows_of, text_cmp}

-- ---- places are known by their texts

words : (name : List ℕ) → is_name name ≡ true → list_all is_word_byte name ≡ true
words name h = (and_parts _ _ h).1

no_dash : (xs ys : List ℕ) → list_all is_word_byte (xs ++ 45 ∷ ys) ≡ true → ⊥
no_dash [] ys h = never h
no_dash (x ∷ xs) ys h = no_dash xs ys (and_parts (is_word_byte x) (list_all is_word_byte (xs ++ 45 ∷ ys)) h).1

dash_in : (name a b : List ℕ) → is_name name ≡ true → name ≡ arrow_text a b → ⊥
dash_in name a b h e =
    no_dash a (62 ∷ b) (ap (list_all is_word_byte) (sym (append_assoc a (codes "->") b)) ∙ ap (list_all is_word_byte) (sym e) ∙ words name h)

pub known_by_text : (p q : Place) → is_named_place p ≡ true → is_named_place q ≡ true → place_text p ≡ place_text q → p ≡ q
known_by_text (places.Named a) (places.Named b) hp hq e = ap places.Named e
known_by_text (places.Named a) (places.Between b c) hp hq e = absurd (dash_in a b c hp e)
known_by_text (places.Between a b) (places.Named c) hp hq e = absurd (dash_in c a b hq (sym e))
known_by_text (places.Between a b) (places.Between c d) hp hq e =
    let same = around_arrow a b c d (words a (and_parts _ _ hp).0) (words c (and_parts _ _ hq).0) e in
    ap (λ x. places.Between x b) same.0 ∙ ap (λ x. places.Between c x) same.1

-- ---- places with their tokens

module _ {A B : Type 0} where
  -- by number
  pub in_zip : (xs : List A) (ys : List B) (k : ℕ) (x : A) (y : B) → slice_get xs k ≡ Some x → slice_get ys k ≡ Some y → IsIn (zip xs ys) (x, y)
  in_zip [] ys k x y a b = let no : None ≡ Some x = a in cc
  in_zip (z ∷ xs) [] k x y a b = let no : None ≡ Some y = b in cc
  in_zip (z ∷ xs) (w ∷ ys) zero x y a b = inl (λ i. (some_same z x a i, some_same w y b i))
  in_zip (z ∷ xs) (w ∷ ys) (suc k) x y a b = inr (in_zip xs ys k x y a b)

  pub from_zip : (xs : List A) (ys : List B) (p : A × B) → IsIn (zip xs ys) p → (k : ℕ) × (slice_get xs k ≡ Some p.0) × (slice_get ys k ≡ Some p.1)
  from_zip [] ys p within = absurd within
  from_zip (x ∷ xs) [] p within = absurd within
  from_zip (x ∷ xs) (y ∷ ys) p (inl same) = (0, ap (λ (q : A × B). Some q.0) same, ap (λ (q : A × B). Some q.1) same)
  from_zip (x ∷ xs) (y ∷ ys) p (inr rest) = let there = from_zip xs ys p rest in (suc there.0, there.1, there.2)

passes_at : {A : Type 0} (p : A → Bool) (xs : List A) (k : ℕ) (x : A) → list_all p xs ≡ true → slice_get xs k ≡ Some x → p x ≡ true
passes_at p [] k x h at = let no : None ≡ Some x = at in cc
passes_at p (y ∷ ys) zero x h at = subst (λ z. p z ≡ true) (some_same y x at) (and_parts (p y) (list_all p ys) h).0
passes_at p (y ∷ ys) (suc k) x h at = passes_at p ys k x (and_parts (p y) (list_all p ys) h).1 at

contained_at : {A : Type 0} (xs : List A) (k : ℕ) (x : A) → slice_get xs k ≡ Some x → IsIn xs x
contained_at [] k x at = let no : None ≡ Some x = at in cc
contained_at (y ∷ ys) zero x at = inl (some_same y x at)
contained_at (y ∷ ys) (suc k) x at = inr (contained_at ys k x at)

-- ---- the order of their texts

then_second : (o p : Ordering) → o ≡ Equal → p ≡ Less → is_lt (ordering_then o p) ≡ true
then_second o p e f = ap (λ z. is_lt (ordering_then z p)) e ∙ ap is_lt f

module _ (i : Ident) (ps : List Counted) where
  rises_so : (es : List (Text × TokenRow)) → ((e : Text × TokenRow) → IsIn es e → string_bytes e.0 ≡ place_text e.1.place)
      → ((e : Text × TokenRow) → IsIn es e → e.1.net ≡ i) → IsStrictlySortedBy text_cmp (map (λ (e : Text × TokenRow). e.0) es) → rises token_before (rows_of es) ≡ true
  unfolding IsStrictlySortedBy
  rises_so [] named net up = refl
  rises_so (e ∷ []) named net up = refl
  rises_so (e ∷ f ∷ es) named net up =
      let texts : lexical (place_text e.1.place) (place_text f.1.place) ≡ Less =
      ap (λ z. lexical z (place_text f.1.place)) (sym (named e (inl refl))) ∙ ap (lexical (string_bytes e.0)) (sym (named f (inr (inl refl)))) ∙ up.0.0 in
      let nets : lexical e.1.net f.1.net ≡ Equal =
      ap (λ z. lexical z f.1.net) (net e (inl refl)) ∙ ap (lexical i) (net f (inr (inl refl))) ∙ tied_itself by_name.total i in
      ap (λ b. b && rises token_before (f.1 ∷ rows_of es)) (then_second (lexical e.1.net f.1.net) (lexical (place_text e.1.place) (place_text f.1.place)) nets texts)
      ∙ rises_so (f ∷ es) (λ g within. named g (inr within)) (λ g within. net g (inr within)) up.1

-- ---- the net that stands at i

module _ (s : State) (i : Ident) (net : Net) (counts : List ℕ) (n : NetAt) (is : IsCounted s i net counts n) where
  abbrev pub here : List Counted
  here = zip net.places counts

  known_here : KnownByText here
  known_here p q a b texts =
      let j = from_zip net.places counts p a in
      let k = from_zip net.places counts q b in
      let place : p.0 ≡ q.0 =
      known_by_text p.0 q.0 (passes_at is_named_place net.places j.0 p.0 is.within.place_names j.1)
      (passes_at is_named_place net.places k.0 q.0 is.within.place_names k.1) texts in
      let number : j.0 ≡ k.0 =
      some_same j.0 k.0 (sym (is.within.places j.0 p.0 j.1) ∙ ap (place_number net) place ∙ is.within.places k.0 q.0 k.1) in
      let count : p.1 ≡ q.1 = some_same p.1 q.1 (sym j.2 ∙ ap (slice_get counts) number ∙ k.2) in
      (λ z. (place z, count z))

  few : (k c : ℕ) → slice_get counts k ≡ Some c → min c most_tokens ≡ c
  few k c at =
      let all : All (λ m. m ≤ most_tokens) counts = subst (All (λ m. m ≤ most_tokens)) is.tokens is.fits.counts in
      let low : c ≤ most_tokens = All-contains (λ m. m ≤ most_tokens) counts c all (contained counts c (contained_at counts k c at)) in
      omega (arith, low)

  place_here : (k : ℕ) (p : Place) → slice_get net.places k ≡ Some p → slice_get n.net.places k ≡ Some p
  place_here k p at = ap (λ (m : Net). slice_get m.places k) is.of_net ∙ at

  count_here : (k c : ℕ) → slice_get counts k ≡ Some c → slice_get n.part.tokens k ≡ Some c
  count_here k c at = ap (λ cs. slice_get cs k) is.tokens ∙ at

  told : (es : List (Text × TokenRow)) → AreMarked i here es → (e : Text × TokenRow) → IsIn es e → (e.1.net ≡ i) × IsTokenRow s (case_number i) e.1
  told es are e within =
      let one = are.each e within in
      let at = from_zip net.places counts one.0 one.1 in
      let stands : IsTokenRow s (case_number i) (row_of i one.0) = record {
        in_case = refl;
        net = n;
        here = is.here;
        number = at.0;
        place = place_here at.0 one.0.0 at.1;
        count = count_here at.0 one.0.1 at.2 ∙ ap Some (sym (few at.0 one.0.1 at.2));
        some = subst (λ m. 1 ≤ m) (sym (few at.0 one.0.1 at.2)) one.2;
      } in
      (ap (λ (r : TokenRow). r.net) one.3, subst (IsTokenRow s (case_number i)) (sym one.3) stands)

  there : (es : List (Text × TokenRow)) → AreMarked i here es → (row : TokenRow) → row.net ≡ i → IsTokenRow s (case_number i) row → IsIn (rows_of es) row
  there es are row at token =
      let net_is : token.net ≡ n = some_same token.net n (sym token.here ∙ ap (net_at s) at ∙ is.here) in
      let place : slice_get net.places token.number ≡ Some row.place =
      ap (λ (m : Net). slice_get m.places token.number) (sym is.of_net) ∙ ap (λ (m : NetAt). slice_get m.net.places token.number) (sym net_is) ∙ token.place in
      let count : slice_get counts token.number ≡ Some row.count =
      ap (λ cs. slice_get cs token.number) (sym is.tokens) ∙ ap (λ (m : NetAt). slice_get m.part.tokens token.number) (sym net_is) ∙ token.count in
      let within = in_zip net.places counts token.number row.place row.count place count in
      let row_is : row_of i (row.place, row.count) ≡ row =
      (λ z. record { net = sym at z; place = row.place; count = few token.number row.count count z }) in
      subst (IsIn (rows_of es)) row_is (are.there known_here (row.place, row.count) within token.some)

  pub tokens_are : (es : List (Text × TokenRow)) → AreMarked i here es → IsStrictlySortedBy text_cmp (map (λ (e : Text × TokenRow). e.0) es)
      → AreTokensAt s i (rows_of es)
  tokens_are es are up = record {
    ordered = rises_so i here es are.named (λ e within. (told es are e within).0) up;
    exact = λ row. (
      (λ shows.
          let e = from_map (λ (z : Text × TokenRow). z.1) es row (found_in (rows_of es) row shows) in
          subst (λ r. (r.net ≡ i) × IsTokenRow s (case_number i) r) e.2 (told es are e.0 e.1)),
      (λ both. contained (rows_of es) row (there es are row both.0 both.1)),
    );
  }
