-- Walks along a relation, which leads from a thing to other things: numbers, names or anything else.
use Rattle.std.specs.Prelude.{◌≡◌, ℕ, zero, suc, ◌≤◌}

-- n steps, one behind the other, go from a to b
abbrev pub WalkAlong : {A : Type 0} → (A → A → Type 0) → A → A → ℕ → Type 0
WalkAlong leads a b zero = a ≡ b
WalkAlong {A} leads a b (suc n) = (c : A) × WalkAlong leads a c n × leads c b

-- steps go from a to b, or they are the same
abbrev pub PathAlong : {A : Type 0} → (A → A → Type 0) → A → A → Type 0
PathAlong leads a b = (n : ℕ) × WalkAlong leads a b n

-- one step or more goes from something to itself
abbrev pub CycleAlong : {A : Type 0} → (A → A → Type 0) → Type 0
CycleAlong {A} leads = (a : A) × (n : ℕ) × WalkAlong leads a a (suc n)

-- k steps or more go from a to b
abbrev pub IsBehindAlong : {A : Type 0} → (A → A → Type 0) → A → A → ℕ → Type 0
IsBehindAlong leads a b k = (n : ℕ) × (k ≤ n) × WalkAlong leads a b n
