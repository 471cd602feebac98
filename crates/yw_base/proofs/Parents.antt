-- An identity without its last number.
use Rattle.std.proofs.Common.{◌≡◌, ◌≤◌, ◌-◌, ℕ, zero, suc, cond, List, [], ◌∷◌, true, take, length, refl, subst, ap, arith}
use Rattle.yw_base.specs.Identity.{is_identity, parent}

front_is : (n : ℕ) (id : List ℕ) → length id ≡ suc n → parent id ≡ take n id
front_is n [] h = absurd (omega arith)
front_is zero (x ∷ []) h = refl
front_is zero (x ∷ y ∷ ys) h = absurd (omega arith)
front_is (suc n) (x ∷ []) h = absurd (omega arith)
front_is (suc n) (x ∷ y ∷ ys) h = ap (λ z. x ∷ z) (front_is n (y ∷ ys) (omega arith))

-- all but the last
pub parent_is : (id : List ℕ) → 1 ≤ length id → parent id ≡ take (length id - 1) id
parent_is id h = front_is (length id - 1) id (omega arith)

pub identity_long : (id : List ℕ) → is_identity id ≡ true → 1 ≤ length id
identity_long [] h = absurd (subst (λ b. cond b ⊥ (Unit {0})) h tt)
identity_long (x ∷ xs) h = omega arith
