-- Names among names.
use Rattle.std.proofs.Common.{◌≡◌, ℕ, ◌<◌, true, List, ◌++◌, map, length, get_or, All, Contains, Some, sym, ap, ◌∙◌, subst}
use Rattle.std.specs.Prelude.{slice_get}
use Rattle.std.specs.Str.{bytes_eq}
use Rattle.std.proofs.lemmas.Bool.{or_left, or_right}
use Rattle.std.proofs.lemmas.List.{get_or-map, length-map}
use Rattle.std.proofs.lemmas.List.Elements.{All-contains}
use Rattle.std.proofs.lemmas.List.Folds.{list_any-append, list_any_at, Any-from_list_any}
use Rattle.std.proofs.lemmas.Option.{get_or_from_slice_get, slice_get_within}
use Rattle.std.proofs.lemmas.Slice.Eq.{bytes_eq-Decides}
use Rattle.yw_accept.specs.Names.{is_usable}
use Rattle.yw_accept.specs.Nodes.{is_name_among}

-- what stands there is found, and what is found stands there
pub among_at : (names : List (List ℕ)) (name : List ℕ) → Contains names name → is_name_among names name ≡ true
among_at names name (k, lt, e) = list_any_at (bytes_eq name) names k name lt ((bytes_eq-Decides name (get_or names k name)).1 (sym e))

pub among_contains : (names : List (List ℕ)) (name : List ℕ) → is_name_among names name ≡ true → Contains names name
among_contains names name h =
    let (k, found, lt, at, same) = Any-from_list_any (bytes_eq name) names h in
    subst (Contains names) (sym ((bytes_eq-Decides name found).0 same)) (k, lt, at)

pub among_get : (names : List (List ℕ)) (name : List ℕ) (k : ℕ) → slice_get names k ≡ Some name → is_name_among names name ≡ true
among_get names name k h = among_at names name (k, slice_get_within names k name h, get_or_from_slice_get names k name name h)

-- in two lists
pub among_left : (xs ys : List (List ℕ)) (name : List ℕ) → is_name_among xs name ≡ true → is_name_among (xs ++ ys) name ≡ true
among_left xs ys name h = list_any-append (bytes_eq name) xs ys ∙ or_left _ _ h

pub among_right : (xs ys : List (List ℕ)) (name : List ℕ) → is_name_among ys name ≡ true → is_name_among (xs ++ ys) name ≡ true
among_right xs ys name h = list_any-append (bytes_eq name) xs ys ∙ or_right _ _ h

pub usable_among : (names : List (List ℕ)) (name : List ℕ) → All (λ n. is_usable n ≡ true) names → is_name_among names name ≡ true → is_usable name ≡ true
usable_among names name usable h = All-contains (λ n. is_usable n ≡ true) names name usable (among_contains names name h)

-- the name of the element at hand stands at its place among the names
pub name_at : {A : Type 0} (of : A → List ℕ) (xs : List A) (i : ℕ) (x : A) (name : List ℕ) → i < length xs → x ≡ get_or xs i x → name ≡ of x → (i < length (map of xs)) × (name ≡ get_or (map of xs) i name)
name_at of xs i x name lt is e = (
  subst (λ (n : ℕ). i < n) (sym (length-map xs of)) lt,
  e ∙ ap of is ∙ sym (get_or-map of xs i x name lt),
)
