-- What is computed of a case is what a query is told.
use Rattle.std.specs.Prelude.{◌≡◌, ◌≤◌, ◌+◌, ◌==◌, ◌↔◌, ◌⊎◌, ℕ, Bool, true, false, cond, List, [], ◌∷◌, ◌++◌, length, filter, Option, Some, None, option_and_then, slice_get, Contains, refl, if◌then◌else◌}
use Rattle.std.specs.List.{filter_map, flat_map, cons_option, enumerate_from}
use Rattle.std.specs.Ordering.{is_lt}
use Rattle.std.proofs.Common.{zero, suc, sym, ◌∙◌, ap, subst, inl, inr, arith}
use Rattle.std.proofs.lemmas.Bool.{eq-eqb, eqb-true}
use Rattle.yw_spec.specs.Net.{place_text}
use Rattle.yw_spec.specs.declared.spec.Place.{Place}
use Rattle.yw_rows.specs.Play.{Entry, begun, shown_at}
use Rattle.yw_rows.specs.Shown.{by_place, if_marked, placed_among, rows_of_net, shown, token_row}
use Rattle.yw_state.proofs.Entries.{IsIn, entry-found, find-entry, mapped_in}
use Rattle.yw_state.proofs.MapLemmas.{by_name, by_test, never, nowhere, some_same}
use Rattle.yw_state.proofs.Standing.{at_net}
use Rattle.yw_state.specs.Answers.{IsShown, IsTokenList, IsTokenRow, of_case, rises, token_before}
use Rattle.yw_state.specs.Identity.{Ident}
use Rattle.yw_base.specs.Identity.{case_number}
use Rattle.yw_state.specs.Map.{entries, get, lexical}
use Rattle.yw_state.specs.State.{State, Site, NetAt, net_at}
use Rattle.yw_state.specs.declared.answer.Shown.{Shown}
use Rattle.yw_state.specs.declared.answer.TokenRow.{TokenRow}

-- ---- elements of lists

contained : {A : Type 0} (xs : List A) (x : A) → IsIn xs x → Contains xs x
contained (y ∷ ys) x (inl same) = (0, omega arith, same)
contained (y ∷ ys) x (inr rest) = let there = contained ys x rest in (suc there.0, omega (arith, there.1), there.2)
contained [] x within = absurd within

found_in : {A : Type 0} (xs : List A) (x : A) → Contains xs x → IsIn xs x
found_in [] x there = absurd (omega (arith, there.1))
found_in (y ∷ ys) x (zero, lt, same) = inl same
found_in (y ∷ ys) x (suc k, lt, same) = inr (found_in ys x (k, omega (arith, lt), same))

in_left : {A : Type 0} (xs ys : List A) (x : A) → IsIn xs x → IsIn (xs ++ ys) x
in_left [] ys x within = absurd within
in_left (z ∷ xs) ys x (inl same) = inl same
in_left (z ∷ xs) ys x (inr rest) = inr (in_left xs ys x rest)

in_right : {A : Type 0} (xs ys : List A) (x : A) → IsIn ys x → IsIn (xs ++ ys) x
in_right [] ys x within = within
in_right (z ∷ xs) ys x within = inr (in_right xs ys x within)

in_one : {A : Type 0} (xs ys : List A) (x : A) → IsIn (xs ++ ys) x → IsIn xs x ⊎ IsIn ys x
in_one [] ys x within = inr within
in_one (z ∷ xs) ys x (inl same) = inl (inl same)
in_one (z ∷ xs) ys x (inr rest) = elim (in_one xs ys x rest) [ inl left ↦ inl (inr left) | inr right ↦ inr right ]

module _ {A B : Type 0} where
  in_flat : (f : A → List B) (xs : List A) (x : A) (y : B) → IsIn xs x → IsIn (f x) y → IsIn (flat_map f xs) y
  in_flat f [] x y within of = absurd within
  in_flat f (z ∷ zs) x y (inl same) of = in_left (f z) (flat_map f zs) y (subst (λ w. IsIn (f w) y) (sym same) of)
  in_flat f (z ∷ zs) x y (inr rest) of = in_right (f z) (flat_map f zs) y (in_flat f zs x y rest of)

  from_flat : (f : A → List B) (xs : List A) (y : B) → IsIn (flat_map f xs) y → (x : A) × IsIn xs x × IsIn (f x) y
  from_flat f [] y within = absurd within
  from_flat f (z ∷ zs) y within = elim (in_one (f z) (flat_map f zs) y within) [
    | inl here ↦ (z, inl refl, here)
    | inr there ↦ let rest = from_flat f zs y there in (rest.0, inr rest.1, rest.2)
  ]

  from_mapped : (h : A → Option B) (xs : List A) (y : B) → IsIn (filter_map h xs) y → (x : A) × IsIn xs x × (h x ≡ Some y)
  from_mapped h [] y within = absurd within
  from_mapped h (x ∷ xs) y within =
      elim (h x) as (λ o. h x ≡ o → IsIn (cons_option o (filter_map h xs)) y → (z : A) × IsIn (x ∷ xs) z × (h z ≡ Some y)) [
        | None ↦ λ e there. let rest = from_mapped h xs y there in (rest.0, inr rest.1, rest.2)
        | Some w ↦ λ e there. elim there [
          | inl same ↦ (x, inl refl, e ∙ ap Some same)
          | inr later ↦ let rest = from_mapped h xs y later in (rest.0, inr rest.1, rest.2)
        ]
      ] refl within

module _ {A : Type 0} where
  in_filter : (p : A → Bool) (xs : List A) (x : A) → IsIn xs x → p x ≡ true → IsIn (filter p xs) x
  in_filter p [] x within e = absurd within
  in_filter p (y ∷ ys) x (inl same) e = subst (λ b. IsIn (if b then y ∷ filter p ys else filter p ys) x) (sym (ap p same ∙ e)) (inl same)
  in_filter p (y ∷ ys) x (inr rest) e =
      elim (p y) as (λ b. IsIn (if b then y ∷ filter p ys else filter p ys) x) [ true ↦ inr (in_filter p ys x rest e) | false ↦ in_filter p ys x rest e ]

  from_filter : (p : A → Bool) (xs : List A) (x : A) → IsIn (filter p xs) x → IsIn xs x × (p x ≡ true)
  from_filter p [] x within = absurd within
  from_filter p (y ∷ ys) x within =
      elim (p y) as (λ b. p y ≡ b → IsIn (if b then y ∷ filter p ys else filter p ys) x → IsIn (y ∷ ys) x × (p x ≡ true)) [
        | true ↦ λ e there. elim there [
          | inl same ↦ (inl same, ap p (sym same) ∙ e)
          | inr later ↦ let rest = from_filter p ys x later in (inr rest.0, rest.1)
        ]
        | false ↦ λ e there. let rest = from_filter p ys x there in (inr rest.0, rest.1)
      ] refl within

  in_numbered : (n k : ℕ) (xs : List A) (x : A) → slice_get xs k ≡ Some x → IsIn (enumerate_from n xs) (n + k, x)
  in_numbered n k [] x at = nowhere at
  in_numbered n zero (y ∷ ys) x at = inl (λ i. (let e : n ≡ n + 0 = omega arith in e i, some_same y x at i))
  in_numbered n (suc k) (y ∷ ys) x at = inr (subst (λ m. IsIn (enumerate_from (n + 1) ys) (m, x)) (omega arith) (in_numbered (n + 1) k ys x at))

  from_numbered : (n : ℕ) (xs : List A) (e : ℕ × A) → IsIn (enumerate_from n xs) e → (k : ℕ) × (e.0 ≡ n + k) × (slice_get xs k ≡ Some e.1)
  from_numbered n [] e within = absurd within
  from_numbered n (y ∷ ys) e (inl same) = (0, ap (λ z. z.0) (sym same) ∙ omega arith, ap (λ z. Some z.1) same)
  from_numbered n (y ∷ ys) e (inr rest) = let there = from_numbered (n + 1) ys e rest in (suc there.0, there.1 ∙ omega arith, there.2)

-- ---- rows in order are the same rows

in_placed : (r : TokenRow) (qs : List TokenRow) (x : TokenRow) → (r ≡ x) ⊎ IsIn qs x → IsIn (placed_among r qs) x
in_placed r [] x (inl same) = inl same
in_placed r [] x (inr within) = absurd within
in_placed r (q ∷ qs) x at =
    elim (is_lt (lexical (place_text r.place) (place_text q.place))) as (λ b. IsIn (if b then r ∷ q ∷ qs else q ∷ placed_among r qs) x) [
      | true ↦ at
      | false ↦ elim at [
        | inl same ↦ inr (in_placed r qs x (inl same))
        | inr within ↦ elim within [ inl here ↦ inl here | inr later ↦ inr (in_placed r qs x (inr later)) ]
      ]
    ]

from_placed : (r : TokenRow) (qs : List TokenRow) (x : TokenRow) → IsIn (placed_among r qs) x → (r ≡ x) ⊎ IsIn qs x
from_placed r [] x within = within
from_placed r (q ∷ qs) x within =
    elim (is_lt (lexical (place_text r.place) (place_text q.place))) as (λ b. IsIn (if b then r ∷ q ∷ qs else q ∷ placed_among r qs) x → (r ≡ x) ⊎ IsIn (q ∷ qs) x) [
      | true ↦ λ at. at
      | false ↦ λ at. elim at [
        | inl here ↦ inr (inl here)
        | inr later ↦ elim (from_placed r qs x later) [ inl same ↦ inl same | inr rest ↦ inr (inr rest) ]
      ]
    ] within

in_order : (rs : List TokenRow) (x : TokenRow) → IsIn rs x → IsIn (by_place rs) x
in_order [] x within = within
in_order (r ∷ rs) x (inl same) = in_placed r (by_place rs) x (inl same)
in_order (r ∷ rs) x (inr rest) = in_placed r (by_place rs) x (inr (in_order rs x rest))

from_order : (rs : List TokenRow) (x : TokenRow) → IsIn (by_place rs) x → IsIn rs x
from_order [] x within = within
from_order (r ∷ rs) x within = elim (from_placed r (by_place rs) x within) [ inl same ↦ inl same | inr rest ↦ inr (from_order rs x rest) ]

-- ---- the rows of one net

from_zero : (k : ℕ) → 0 + k ≡ k
from_zero k = omega arith

one_at_least : (k : ℕ) → (k == 0) ≡ false → 1 ≤ k
one_at_least zero e = never (sym e)
one_at_least (suc k) e = omega arith

module _ (s : State) (n : ℕ) (row : TokenRow) where
  -- a place with tokens makes the row
  row_made : (at : NetAt) (number : ℕ) → slice_get at.net.places number ≡ Some row.place → 1 ≤ row.count → token_row at row.net (number, row.count) ≡ Some row
  row_made at number place some =
      ap (option_and_then (if_marked row.net row.count)) place
      ∙ ap (λ (b : Bool). if b then None else Some row) (by_test (row.count == 0) (λ t. absurd (omega (arith, some, eqb-true row.count 0 t))) (λ f. f))

  is_row : (i : Ident) (at : NetAt) → case_number i ≡ n → net_at s i ≡ Some at → IsIn (rows_of_net i (Some at)) row → IsTokenRow s n row
  is_row i at here net within =
      let made = from_mapped (token_row at i) (enumerate_from 0 at.part.tokens) row (from_order _ row within) in
      let counted = from_numbered 0 at.part.tokens made.0 made.1 in
      elim (slice_get at.net.places made.0.0) as (λ o. slice_get at.net.places made.0.0 ≡ o → option_and_then (if_marked i made.0.1) o ≡ Some row → IsTokenRow s n row) [
        | None ↦ λ p e. nowhere e
        | Some place ↦ λ p e. by_test (made.0.1 == 0)
            (λ t. nowhere (sym (ap (λ (b : Bool). if b then None else Some (record { net = i; place = place; count = made.0.1 })) t) ∙ e))
            (λ f.
            let same : record { net = i; place = place; count = made.0.1 } ≡ row =
            some_same _ row (sym (ap (λ (b : Bool). if b then None else Some (record { net = i; place = place; count = made.0.1 })) f) ∙ e) in
            subst (IsTokenRow s n) same (record {
              in_case = here;
              net = at;
              here = net;
              number = made.0.0;
              place = p;
              count = ap (slice_get at.part.tokens) (counted.1 ∙ from_zero counted.0) ∙ counted.2;
              some = one_at_least made.0.1 f;
            }))
      ] refl made.2

  rows_in : (e : Ident × Site) → IsIn (of_case s n) e → IsIn (rows_of_net e.0 (net_at s e.0)) row → IsTokenRow s n row
  rows_in e within =
      elim (net_at s e.0) as (λ o. net_at s e.0 ≡ o → IsIn (rows_of_net e.0 o) row → IsTokenRow s n row) [
        | None ↦ λ net at. absurd at
        | Some at ↦ λ net there. is_row e.0 at (eqb-true (case_number e.0) n (from_filter (λ (f : Ident × Site). case_number f.0 == n) (entries s.sites) e within).1) net there
      ] refl

  told : IsIn (shown s n).tokens row → IsTokenRow s n row
  told within = let there = from_flat (λ (e : Ident × Site). rows_of_net e.0 (net_at s e.0)) (of_case s n) row within in rows_in there.0 there.1 there.2

  shown_there : IsTokenRow s n row → IsIn (shown s n).tokens row
  shown_there is =
      let stands = at_net s row.net is.net is.here in
      let number : 0 + is.number ≡ is.number = omega arith in
      let counted = subst (λ k. IsIn (enumerate_from 0 is.net.part.tokens) (k, row.count)) number (in_numbered 0 is.number is.net.part.tokens row.count is.count) in
      let made = mapped_in (token_row is.net row.net) (enumerate_from 0 is.net.part.tokens) (is.number, row.count) row counted (row_made is.net is.number is.place is.some) in
      in_flat (λ (e : Ident × Site). rows_of_net e.0 (net_at s e.0)) (of_case s n) (row.net, stands.0) row
      (in_filter (λ (e : Ident × Site). case_number e.0 == n) (entries s.sites) (row.net, stands.0)
      (entry-found by_name (entries s.sites) row.net stands.0 stands.1) (eq-eqb (case_number row.net) n is.in_case))
      (subst (λ o. IsIn (rows_of_net row.net o) row) (sym is.here) (in_order _ row made))

-- what is computed is told, where its tokens are in order
pub is_told : (s : State) (n : ℕ) → rises token_before (shown s n).tokens ≡ true → IsShown s n (shown s n)
is_told s n ordered = record {
  due = refl;
  items = refl;
  nets = refl;
  runs = refl;
  suspended = refl;
  tokens = record {
    ordered = ordered;
    exact = λ row. (
      (λ there. told s n row (found_in (shown s n).tokens row there)),
      (λ is. contained (shown s n).tokens row (shown_there s n row is)),
    );
  };
}

-- so is what a row shows
pub row_told : (row : List Entry) (k n : ℕ) (x : Shown) (s : State) → begun row k ≡ Some s → shown_at row k n ≡ Some x → IsShown s n x
row_told row k n x s at is =
    elim (rises token_before (shown s n).tokens) as (λ b. rises token_before (shown s n).tokens ≡ b → (if b then Some (shown s n) else None) ≡ Some x → IsShown s n x) [
      | true ↦ λ ordered e. subst (IsShown s n) (some_same (shown s n) x e) (is_told s n ordered)
      | false ↦ λ ordered e. nowhere e
    ] refl (sym (ap (option_and_then (λ (t : State). if rises token_before (shown t n).tokens then Some (shown t n) else None)) at) ∙ is)
