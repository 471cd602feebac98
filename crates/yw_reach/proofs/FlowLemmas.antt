-- Flows of a list: their ends, and the same flows the other way round.
use Rattle.std.proofs.Common.{◌≡◌, ℕ, zero, suc, ◌<◌, ◌⊎◌, inl, inr, List, [], ◌∷◌, map, Contains, All, refl, ap, subst, arith}
use Rattle.std.proofs.lemmas.List.Elements.{All-contains, All-map}
use Rattle.yw_reach.specs.declared.flow.Flow.{Flow}
use Rattle.yw_reach.specs.Flows.{HasFlow, IsWithin, turned}

-- an item at the front, later, and which of both
pub has_front : {A : Type 0} (x : A) (xs : List A) → Contains (x ∷ xs) x
has_front x xs = (0, omega arith, refl)

pub has_later : {A : Type 0} (x y : A) (xs : List A) → Contains xs y → Contains (x ∷ xs) y
has_later x y xs (k, lt, e) = (suc k, omega (arith, lt), e)

pub has_cases : {A : Type 0} (x y : A) (xs : List A) → Contains (x ∷ xs) y → (x ≡ y) ⊎ Contains xs y
has_cases x y xs (zero, lt, e) = inl e
has_cases x y xs (suc k, lt, e) = inr (k, omega (arith, lt), e)

pub has_none : {A : Type 0} (x : A) → Contains [] x → ⊥
has_none x (k, lt, e) = omega (arith, lt)

pub has_single : {A : Type 0} (x y : A) → Contains (x ∷ []) y → x ≡ y
has_single x y c = elim (has_cases x y [] c) [ inl e ↦ e | inr later ↦ absurd (has_none y later) ]

-- both ends of a flow are nodes
pub ends_within : (count a b : ℕ) (fs : List Flow) → All (IsWithin count) fs → HasFlow fs a b → (a < count) × (b < count)
ends_within count a b fs h c = All-contains (IsWithin count) fs (record { from = a; to = b }) h c

-- an item's image is in the list of images, and each of those is an item's
pub map_has : {A B : Type 0} (g : A → B) (xs : List A) (x : A) → Contains xs x → Contains (map g xs) (g x)
map_has g [] x c = absurd (has_none x c)
map_has g (y ∷ xs) x c = elim (has_cases y x xs c) [
  | inl e ↦ (0, omega arith, ap g e)
  | inr later ↦ has_later (g y) (g x) (map g xs) (map_has g xs x later)
]

pub has_of_map : {A B : Type 0} (g : A → B) (xs : List A) (y : B) → Contains (map g xs) y → (x : A) × Contains xs x × (g x ≡ y)
has_of_map g [] y c = absurd (has_none y c)
has_of_map g (x ∷ xs) y c = elim (has_cases (g x) y (map g xs) c) [
  | inl e ↦ (x, has_front x xs, e)
  | inr later ↦ (let r = has_of_map g xs y later in (r.0, has_later x r.0 xs r.1, r.2))
]

-- a flow of the turned ones is a turned flow
pub turned_to : (fs : List Flow) (a b : ℕ) → HasFlow fs a b → HasFlow (map turned fs) b a
turned_to fs a b c = map_has turned fs (record { from = a; to = b }) c

pub turned_from : (fs : List Flow) (a b : ℕ) → HasFlow (map turned fs) a b → HasFlow fs b a
turned_from fs a b c =
    let r = has_of_map turned fs (record { from = a; to = b }) c in
    let P : Flow → Type 0 = λ f. Contains fs f in
    subst P (ap turned r.2) r.1

pub turned_within : (count : ℕ) (fs : List Flow) → All (IsWithin count) fs → All (IsWithin count) (map turned fs)
turned_within count fs h = All-map (IsWithin count) turned fs (λ k d lt. let w = h k d lt in (w.1, w.0))
