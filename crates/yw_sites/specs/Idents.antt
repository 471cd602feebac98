-- Words on identities and on lists of them. That what stands directly under one identity is one number longer, no two the same, is
-- our own.
use Rattle.std.specs.Prelude.{◌≡◌, ◌≢◌, ℕ, List, [], ◌∷◌}
use Rattle.yw_state.specs.Identity.{Ident}
use Rattle.yw_base.specs.Identity.{child}

-- each of a list
abbrev pub Each : {A : Type 0} → (A → Type 0) → List A → Type 0
Each Q [] = Unit {0}
Each Q (x ∷ xs) = Q x × Each Q xs

-- j is i with one number behind
abbrev pub IsChild : Ident → Ident → Type 0
IsChild i j = (k : ℕ) × (j ≡ child i k)

-- no two are the same
abbrev pub Distinct : List Ident → Type 0
Distinct [] = Unit {0}
Distinct (j ∷ js) = Each (λ k. j ≢ k) js × Distinct js

-- What may stand directly under i: each is i with one number behind, and no two are the same.
abbrev pub AreChildren : Ident → List Ident → Type 0
AreChildren i js = Each (IsChild i) js × Distinct js
