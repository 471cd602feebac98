-- Lists made element by element, and elements by their names.
use Rattle.std.proofs.Common.{◌≡◌, ℕ, suc, Bool, true, List, [], ◌∷◌, map, All, Some, sym, ap, ◌∙◌, arith}
use Rattle.std.specs.Prelude.{slice_get, Contains, filter}
use Rattle.std.specs.List.{AllZip, list_any}
use Rattle.std.specs.Option.{option_map}
use Rattle.std.specs.Str.{bytes_eq}
use Rattle.std.proofs.lemmas.List.Elements.{All-filter, filter_passes}
use Rattle.std.proofs.lemmas.Option.{slice_get-get_or, slice_get-map}
use Rattle.yw_accept.specs.Nodes.{is_name_among}
use Rattle.yw_accept.proofs.Among.{among_contains}
use Rattle.yw_accept.proofs.Lists.{list_any_of_map}

-- what can be made of each element can be made of all
pub made_of_all : {A B : Type 0} (P : A → Type 0) (R : A → B → Type 0) → ((x : A) → P x → (y : B) × R x y) → (xs : List A) → All P xs → (ys : List B) × AllZip R xs ys
made_of_all P R make [] h = ([], tt)
made_of_all P R make (x ∷ xs) h =
    let first = make x (h 0 x (omega arith)) in
    let rest = made_of_all P R make xs (λ i d lt. h (suc i) d (omega (arith, lt))) in
    (first.0 ∷ rest.0, (first.1, rest.1))

-- what is kept is kept for its reason
pub kept : {A : Type 0} (test : A → Bool) (P : A → Type 0) (xs : List A) → All P xs → All (λ x. P x × (test x ≡ true)) (filter test xs)
kept test P xs h i d lt = (All-filter test P xs h i d lt, filter_passes test xs i d lt)

-- an element has its number
pub number_of : {A : Type 0} (xs : List A) (x : A) → Contains xs x → (k : ℕ) × (slice_get xs k ≡ Some x)
number_of xs x (k, lt, e) = (k, slice_get-get_or xs k x lt ∙ ap Some e)

-- a name that is among those of a list is its element's of some number
pub number_called : {A : Type 0} (name : A → List ℕ) (xs : List A) (text : List ℕ) → is_name_among (map name xs) text ≡ true → (k : ℕ) × (option_map name (slice_get xs k) ≡ Some text)
number_called name xs text h = let at = number_of (map name xs) text (among_contains (map name xs) text h) in (at.0, sym (slice_get-map name xs at.0) ∙ at.1)

-- an element whose name is asked for has its number
pub number_named : {A : Type 0} (name : A → List ℕ) (xs : List A) (text : List ℕ) → list_any (λ x. bytes_eq text (name x)) xs ≡ true → (k : ℕ) × (option_map name (slice_get xs k) ≡ Some text)
number_named name xs text h = number_called name xs text (list_any_of_map (bytes_eq text) name xs ∙ h)
