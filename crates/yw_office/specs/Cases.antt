-- The numbers of the cases that stand. Our own.
use Rattle.std.specs.Prelude.{◌≡◌, ◌<◌, ℕ, is_some, List, true}
use Rattle.yw_state.proofs.Entries.{IsIn}
use Rattle.yw_tree.specs.Cases.{case_at}
use Rattle.yw_tree.specs.declared.Forest.{Forest}

-- each number lesser than this one of which a case stands
abbrev pub HasCases : Forest → ℕ → List ℕ → Type 0
HasCases f next cases = (n : ℕ) → n < next → is_some (case_at n f.cases) ≡ true → IsIn cases n

-- What was there is there still, and so is this number, where a case of it stands.
pub record AddsCase (f : Forest) (n : ℕ) (old new : List ℕ) : Type 0 where
  pub was : (m : ℕ) → IsIn old m → IsIn new m
  pub here : is_some (case_at n f.cases) ≡ true → IsIn new n
