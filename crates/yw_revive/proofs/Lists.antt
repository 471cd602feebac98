-- Elements of lists, and lists that are split.
use Rattle.std.proofs.Common.{◌≡◌, ◌∙◌, ◌++◌, ◌∷◌, ◌+◌, ◌<◌, ◌≤◌, [], ℕ, zero, suc, List, Some, inl, inr, get_or, length, map, take, drop, refl, sym, ap, subst, arith}
use Rattle.std.proofs.lemmas.List.{take_more}
use Rattle.std.specs.Prelude.{All, slice_get}
use Rattle.yw_state.proofs.Entries.{IsIn}
use Rattle.yw_state.proofs.Tests.{nowhere, some_same}

pub in_map : {A B : Type 0} (f : A → B) (xs : List A) (x : A) → IsIn xs x → IsIn (map f xs) (f x)
in_map f [] x within = absurd within
in_map f (y ∷ ys) x (inl same) = inl (ap f same)
in_map f (y ∷ ys) x (inr rest) = inr (in_map f ys x rest)

pub from_map : {A B : Type 0} (f : A → B) (xs : List A) (y : B) → IsIn (map f xs) y → (x : A) × IsIn xs x × (f x ≡ y)
from_map f [] y within = absurd within
from_map f (x ∷ xs) y (inl same) = (x, inl refl, same)
from_map f (x ∷ xs) y (inr rest) = let there = from_map f xs y rest in (there.0, inr there.1, there.2)

pub in_at : {A : Type 0} (xs : List A) (i : ℕ) (x : A) → slice_get xs i ≡ Some x → IsIn xs x
in_at [] i x e = nowhere e
in_at (y ∷ ys) zero x e = inl (some_same y x e)
in_at (y ∷ ys) (suc i) x e = inr (in_at ys i x e)

pub all_in : {A : Type 0} (P : A → Type 0) (xs : List A) → ((x : A) → IsIn xs x → P x) → All P xs
all_in P [] each k d less = absurd (omega (arith, less))
all_in P (x ∷ xs) each zero d less = each x (inl refl)
all_in P (x ∷ xs) each (suc k) d less = all_in P xs (λ y within. each y (inr within)) k d (omega (arith, less))

pub in_all : {A : Type 0} (P : A → Type 0) (xs : List A) → All P xs → (x : A) → IsIn xs x → P x
in_all P [] all x within = absurd within
in_all P (y ∷ ys) all x (inl same) = subst P same (all zero y (omega arith))
in_all P (y ∷ ys) all x (inr rest) = in_all P ys (λ k d less. all (suc k) d (omega (arith, less))) x rest

pub map_map : {A B C : Type 0} (f : A → B) (g : B → C) (xs : List A) → map g (map f xs) ≡ map (λ (x : A). g (f x)) xs
map_map f g [] = refl
map_map f g (x ∷ xs) = ap (λ z. g (f x) ∷ z) (map_map f g xs)

pub map_itself : {A : Type 0} (f : A → A) (xs : List A) → ((x : A) → IsIn xs x → f x ≡ x) → map f xs ≡ xs
map_itself f [] each = refl
map_itself f (x ∷ xs) each = ap (λ z. z ∷ map f xs) (each x (inl refl)) ∙ ap (λ z. x ∷ z) (map_itself f xs (λ y within. each y (inr within)))

-- A list of which the parts have these two fronts.
pub record IsSplit {A B : Type 0} (f : A → B) (xs : List A) (front : List B) (y : B) (back : List B) : Type 0 where
  pub before : List A
  pub here : A
  pub after : List A
  pub whole : xs ≡ before ++ (here ∷ after)
  pub front_is : map f before ≡ front
  pub here_is : f here ≡ y

first_same : {A : Type 0} (x y : A) (xs ys : List A) → x ∷ xs ≡ y ∷ ys → x ≡ y
first_same x y xs ys e = cc

rest_same : {A : Type 0} (x y : A) (xs ys : List A) → x ∷ xs ≡ y ∷ ys → xs ≡ ys
rest_same x y xs ys e = cc

pub split : {A B : Type 0} (f : A → B) (xs : List A) (front : List B) (y : B) (back : List B) → map f xs ≡ front ++ (y ∷ back) → IsSplit f xs front y back
split f [] [] y back e = absurd (omega (arith, ap length e))
split f [] (z ∷ front) y back e = absurd (omega (arith, ap length e))
split f (x ∷ xs) [] y back e = record { before = []; here = x; after = xs; whole = refl; front_is = refl; here_is = first_same (f x) y (map f xs) back e }
split f (x ∷ xs) (z ∷ front) y back e =
    let further = split f xs front y back (rest_same (f x) z (map f xs) (front ++ (y ∷ back)) e) in
    record {
      before = x ∷ further.before;
      here = further.here;
      after = further.after;
      whole = ap (λ l. x ∷ l) further.whole;
      front_is = ap (λ l. l ∷ map f further.before) (first_same (f x) z (map f xs) (front ++ (y ∷ back)) e) ∙ ap (λ l. z ∷ l) further.front_is;
      here_is = further.here_is;
    }

-- what is taken, the next one, and what is left
pub at_split : {A : Type 0} (xs : List A) (i : ℕ) (x : A) → i < length xs → x ≡ get_or xs i x → xs ≡ take i xs ++ (x ∷ drop (i + 1) xs)
at_split [] i x less e = absurd (omega (arith, less))
at_split (y ∷ ys) zero x less e = ap (λ z. z ∷ ys) (sym e)
at_split (y ∷ ys) (suc i) x less e =
    let next : suc (i + 1) ≡ suc i + 1 = omega arith in
    ap (λ z. y ∷ z) (at_split ys i x (omega (arith, less)) e ∙ ap (λ (k : ℕ). take i ys ++ (x ∷ drop k (y ∷ ys))) next)

pub taken_more : {A : Type 0} (xs : List A) (i : ℕ) (x : A) → i < length xs → x ≡ get_or xs i x → take (i + 1) xs ≡ take i xs ++ (x ∷ [])
taken_more xs i x less e = take_more xs i x less ∙ ap (λ z. take i xs ++ (z ∷ [])) (sym e)

pub taken_all : {A : Type 0} (xs : List A) (i : ℕ) → length xs ≤ i → take i xs ≡ xs
taken_all [] zero h = refl
taken_all [] (suc i) h = refl
taken_all (x ∷ xs) zero h = absurd (omega (arith, h))
taken_all (x ∷ xs) (suc i) h = ap (λ z. x ∷ z) (taken_all xs i (omega (arith, h)))
