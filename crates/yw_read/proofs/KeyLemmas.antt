-- What loops over the elements and the keys of a table need.
use Rattle.std.proofs.Common.{◌≡◌, ℕ, List, [], ◌∷◌, ◌++◌, map, Bool, Bor, Option, Some, None, Result, Ok, IfSome, refl, ap, true, false, if◌then◌else◌, String, Global, string_bytes, ◌||◌, Less, nat_cmp, inl, inr}
use Rattle.std.proofs.lemmas.Bool.{cases_Bool}
use Rattle.std.specs.Cmp.Lexicographic.{slice_cmp}
use Rattle.std.specs.List.{AllByRecursion, list_any}
use Rattle.std.specs.List.Sorted.{IsStrictlySortedBy}
use Rattle.std.specs.Map.{keys_of}
use Rattle.std.specs.Str.{bytes_eq}
use Rattle.std.specs.String.{string_cmp}
use Rattle.toml.proofs.Views.{Entry}
use Rattle.toml.specs.View.{members_view}
use Rattle.yw_base.specs.Order.{lesser}
use Rattle.yw_read.specs.Keys.{◌>>=◌, unknown_key}

-- what was read before, and what is still read
abbrev pub with_front : {A : Type 0} → List A → Result (List A) (List ℕ) → Result (List A) (List ℕ)
with_front front read = read >>= λ xs. Ok (front ++ xs)

any_now : (key : List ℕ) (known : List (Bor (List ℕ))) → list_any (bytes_eq key) (map (λ w. w.now) known) ≡ list_any (λ w. bytes_eq key w.now) known
any_now key [] = refl
any_now key (w ∷ ws) = ap (λ b. bytes_eq key w.now || b) (any_now key ws)

abbrev pub is_known : List (Bor (List ℕ)) → List ℕ → Bool
is_known known key = list_any (λ w. bytes_eq key w.now) known

-- the first of some keys that is none of those known
abbrev pub first_unknown : List (Bor (List ℕ)) → List (String Global) → Option (List ℕ)
first_unknown known [] = None
first_unknown known (key ∷ keys) = if is_known known (string_bytes key) then first_unknown known keys else Some (string_bytes key)

-- a key is below each of the keys
abbrev IsBelow : String Global → List (String Global) → Type 0
IsBelow key keys = AllByRecursion (λ other. string_cmp key other ≡ Less) keys

first_unknown-above : (key : String Global) (known : List (Bor (List ℕ))) (keys : List (String Global)) → IsBelow key keys → IfSome (first_unknown known keys) (λ other. slice_cmp nat_cmp (string_bytes key) other ≡ Less)
first_unknown-above key known [] h = tt
first_unknown-above key known (first ∷ keys) h =
    elim (cases_Bool (is_known known (string_bytes first))) [
      | inl is ↦ rw is (first_unknown-above key known keys h.1)
      | inr other ↦ rw other h.0
    ]

lesser-below : (key : List ℕ) (other : Option (List ℕ)) → IfSome other (λ o. slice_cmp nat_cmp key o ≡ Less) → lesser key other ≡ key
lesser-below key None h = refl
lesser-below key (Some other) h = rw h refl

-- A table's keys ascend, so the first unknown one is the least.
pub first_unknown-view : (known : List (Bor (List ℕ))) (es : List Entry) → IsStrictlySortedBy string_cmp (keys_of es) → first_unknown known (keys_of es) ≡ unknown_key (map (λ w. w.now) known) (members_view es)
unfolding IsStrictlySortedBy
first_unknown-view known [] h = refl
first_unknown-view known (e ∷ es) h =
    let rest = first_unknown-view known es h.1 in
    let least : lesser (string_bytes e.0) (unknown_key (map (λ w. w.now) known) (members_view es)) ≡ string_bytes e.0 =
    rw (← rest) (lesser-below (string_bytes e.0) (first_unknown known (keys_of es)) (first_unknown-above e.0 known (keys_of es) h.0)) in
    rw (any_now (string_bytes e.0) known, least, rest) refl

module _ (known : List (Bor (List ℕ))) (key : String Global) (keys rest : List (String Global)) (total : Option (List ℕ)) (word : List ℕ) (test : Bool) (split : keys ≡ key ∷ rest) (so_far : first_unknown known keys ≡ total) (is : word ≡ string_bytes key) (tested : test ≡ is_known known word) where
  one : (if test then first_unknown known rest else Some (string_bytes key)) ≡ total
  one = rw (tested, is) (rw split at so_far)

  pub goes_on : test ≡ true → first_unknown known rest ≡ total
  goes_on e = rw e at one

  pub stops : test ≡ false → Some (string_bytes key) ≡ total
  stops e = rw e at one
