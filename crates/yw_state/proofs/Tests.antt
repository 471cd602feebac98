-- Tests, what may be there, and lists of numbers.
use Rattle.std.specs.Prelude.{◌≡◌, ◌⊎◌, ◌&&◌, ◌||◌, ℕ, Bool, true, false, not, cond, List, [], ◌∷◌, Option, Some, None, refl, is_some, nat_eq, option_and_then, option_map}
use Rattle.std.specs.Cmp.Lexicographic.{pointwise}
use Rattle.std.proofs.Common.{◌∙◌, ap, subst, inl, inr}
use Rattle.std.proofs.lemmas.Bool.{and_parts, eqb-true}
use Rattle.yw_state.specs.Options.{is_some_and}

-- ---- tests

-- a test that holds and doesn't
pub never : {A : Type 0} → false ≡ true → A
never e = absurd (subst (λ b. cond b ⊥ (Unit {0})) e tt)

-- two cases of a test, with its answer
pub by_test : {G : Type 0} (b : Bool) → (b ≡ true → G) → (b ≡ false → G) → G
by_test {G} b holds fails = elim b as (λ c. b ≡ c → G) [ true ↦ holds | false ↦ fails ] refl

pub and_left : (a b : Bool) → (a && b) ≡ true → a ≡ true
and_left true b e = refl
and_left false b e = e

pub and_right : (a b : Bool) → (a && b) ≡ true → b ≡ true
and_right true b e = e
and_right false b e = never e

pub or_cases : (a b : Bool) → (a || b) ≡ true → (a ≡ true) ⊎ (b ≡ true)
or_cases true b e = inl refl
or_cases false b e = inr e

pub is_not : (a : Bool) → not a ≡ true → a ≡ false
is_not true e = never e
is_not false e = refl

-- ---- what may be there

-- what is nothing and something
pub nowhere : {A B : Type 0} {x : A} → ◌≡◌ {A = Option A} None (Some x) → B
nowhere e = absurd (subst (λ o. cond (is_some o) ⊥ (Unit {0})) e tt)

-- two cases of what may be there
pub by_option : {A G : Type 0} (o : Option A) → (o ≡ None → G) → ((x : A) → o ≡ Some x → G) → G
by_option {A} {G} o none some = elim o as (λ c. o ≡ c → G) [ None ↦ none | Some x ↦ some x ] refl

pub some_same : {A : Type 0} (x y : A) → Some x ≡ Some y → x ≡ y
some_same x y e = cc

pub there : {A : Type 0} (o : Option A) → is_some o ≡ true → (x : A) × (o ≡ Some x)
there None e = never e
there (Some x) e = (x, refl)

pub there_and : {A : Type 0} (o : Option A) (p : A → Bool) → is_some_and o p ≡ true → (x : A) × (o ≡ Some x) × (p x ≡ true)
there_and None p e = never e
there_and (Some x) p e = (x, refl, e)

pub then_some : {A B : Type 0} (f : A → Option B) (o : Option A) (y : B) → option_and_then f o ≡ Some y → (x : A) × (o ≡ Some x) × (f x ≡ Some y)
then_some f None y e = nowhere e
then_some f (Some x) y e = (x, refl, e)

pub map_some : {A B : Type 0} (f : A → B) (o : Option A) (y : B) → option_map f o ≡ Some y → (x : A) × (o ≡ Some x) × (f x ≡ y)
map_some f None y e = nowhere e
map_some f (Some x) y e = (x, refl, some_same (f x) y e)

-- ---- lists of numbers

pub same_numbers : (xs ys : List ℕ) → pointwise nat_eq xs ys ≡ true → xs ≡ ys
same_numbers [] [] e = refl
same_numbers [] (y ∷ ys) e = never e
same_numbers (x ∷ xs) [] e = never e
same_numbers (x ∷ xs) (y ∷ ys) e =
    let parts = and_parts (nat_eq x y) (pointwise nat_eq xs ys) e in
    ap (λ n. n ∷ xs) (eqb-true x y parts.0) ∙ ap (λ ns. y ∷ ns) (same_numbers xs ys parts.1)
