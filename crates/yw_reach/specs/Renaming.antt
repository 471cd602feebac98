-- Nodes by names and nodes by numbers.
use Rattle.std.specs.Prelude.{◌≡◌, ℕ, ◌<◌, List, map, Contains}
use Rattle.yw_reach.specs.declared.flow.Flow.{Flow}

-- no two of the first `count` numbers have one name
abbrev pub AreDistinct : {A : Type 0} → ℕ → (ℕ → A) → Type 0
AreDistinct count name = (i j : ℕ) → i < count → j < count → name i ≡ name j → i ≡ j

-- The names of numbers below `count` lead to each other as the numbers do, and nothing else leads anywhere.
pub record Renames {A : Type 0} (count : ℕ) (name : ℕ → A) (by_number : ℕ → ℕ → Type 0) (by_name : A → A → Type 0) : Type 0 where
  pub distinct : AreDistinct count name
  pub named : (i j : ℕ) → by_number i j → by_name (name i) (name j)
  pub numbered : (x y : A) → by_name x y → (i : ℕ) × (j : ℕ) × (i < count) × (j < count) × (name i ≡ x) × (name j ≡ y) × by_number i j

-- pairs are equal only where both of their parts are
abbrev pub IsPairing : {A P : Type 0} → (A → A → P) → Type 0
IsPairing {A} pair = (x y x2 y2 : A) → pair x y ≡ pair x2 y2 → (x ≡ x2) × (y ≡ y2)

-- the flows as pairs of the names of their ends
abbrev pub named_flows : {A P : Type 0} → (ℕ → A) → (A → A → P) → List Flow → List P
named_flows name pair flows = map (λ (f : Flow). pair (name f.from) (name f.to)) flows

-- a list of pairs has the pair of x and y
abbrev pub HasPair : {A P : Type 0} → (A → A → P) → List P → A → A → Type 0
HasPair pair pairs x y = Contains pairs (pair x y)
