-- What stands in a list that a map or a test makes of another.
use Rattle.std.proofs.Common.{◌≡◌, ℕ, zero, suc, ◌<◌, ◌||◌, Bool, true, false, List, [], ◌∷◌, map, length, get_or, All, Contains, cond, refl, sym, ap, ◌∙◌, subst, arith}
use Rattle.std.specs.Prelude.{filter}
use Rattle.std.specs.List.{list_any}
use Rattle.std.proofs.lemmas.List.{get_or-map, length-map}

pub contains_map : {A B : Type 0} (f : A → B) (xs : List A) (x : A) → Contains xs x → Contains (map f xs) (f x)
contains_map f xs x (k, lt, e) = (k, omega (arith, lt, length-map xs f), get_or-map f xs k x (f x) lt ∙ ap f e)

pub contains_unmap : {A B : Type 0} (f : A → B) (xs : List A) (y : B) → Contains (map f xs) y → (x : A) × Contains xs x × (f x ≡ y)
contains_unmap f [] y (k, lt, e) = absurd (omega (arith, lt))
contains_unmap f (x ∷ xs) y (zero, lt, e) = (x, (0, omega arith, refl), e)
contains_unmap f (x ∷ xs) y (suc k, lt, e) =
    let (z, (j, within, at), is) = contains_unmap f xs y (k, omega (arith, lt), e) in (z, (suc j, omega (arith, within), at), is)

pub contains_filter : {A : Type 0} (p : A → Bool) (xs : List A) (x : A) → Contains xs x → p x ≡ true → Contains (filter p xs) x
contains_filter p [] x (k, lt, e) h = absurd (omega (arith, lt))
contains_filter p (y ∷ ys) x (zero, lt, e) h = subst (λ b. Contains (cond b (y ∷ filter p ys) (filter p ys)) x) (sym (ap p e ∙ h)) (0, omega arith, e)
contains_filter p (y ∷ ys) x (suc k, lt, e) h =
    let rest = contains_filter p ys x (k, omega (arith, lt), e) h in
    elim (p y) as (λ b. Contains (cond b (y ∷ filter p ys) (filter p ys)) x) [ true ↦ (suc rest.0, omega (arith, rest.1), rest.2) | false ↦ rest ]

-- a test of what elements are sent to
pub list_any_of_map : {A B : Type 0} (p : B → Bool) (f : A → B) (xs : List A) → list_any p (map f xs) ≡ list_any (λ x. p (f x)) xs
list_any_of_map p f [] = refl
list_any_of_map p f (x ∷ xs) = ap (λ b. p (f x) || b) (list_any_of_map p f xs)

pub empty_all : {A : Type 0} (P : A → Type 0) (xs : List A) → length xs ≡ 0 → All P xs
empty_all P xs none i d lt = absurd (omega (arith, lt, none))

-- an element read from an equal list
pub at_element : {A : Type 0} (P : A → Type 0) (xs items : List A) → items ≡ xs → (i : ℕ) (x : A) → i < length items → x ≡ get_or items i x → All P xs → P x
at_element P xs items same i x lt is all = subst P (sym is) (subst (All P) (sym same) all i x lt)
