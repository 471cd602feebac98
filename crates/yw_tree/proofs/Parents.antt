-- The first number of an identity, and the identity without its last one.
use Rattle.std.proofs.Common.{◌≡◌, ◌≤◌, ◌-◌, ℕ, zero, suc, [], ◌∷◌, false, true, take, length, refl, sym, ap, ◌∙◌, arith}
use Rattle.std.specs.List.{list_all}
use Rattle.std.specs.Prelude.{nat_le, nat_lt, slice_index_or, ◌&&◌}
use Rattle.std.proofs.lemmas.Bool.{and_parts, eq-eqb, leb-true}
use Rattle.yw_base.specs.Identity.{is_identity, is_number, most_numbers, case_number, parent}
use Rattle.yw_sites.specs.Idents.{IsChild}
use Rattle.yw_state.specs.Identity.{Ident, is_case_ident}
use Rattle.yw_state.proofs.Tests.{never}

pub first_read : (id : Ident) → 1 ≤ length id → slice_index_or id 0 0 ≡ case_number id
first_read [] h = absurd (omega arith)
first_read (x ∷ xs) h = refl

pub parent_length : (id : Ident) → length (parent id) ≡ length id - 1
parent_length [] = refl
parent_length (x ∷ xs) = but_last_length x xs ∙ omega arith
  where
    but_last_length : (x : ℕ) (xs : Ident) → length (parent (x ∷ xs)) ≡ length xs
    but_last_length x [] = refl
    but_last_length x (y ∷ ys) = ap suc (but_last_length y ys)

-- an identity that isn't a case's lies below another
pub parent_there : (id : Ident) → 1 ≤ length id → is_case_ident id ≡ false → 1 ≤ length (parent id)
parent_there id h e =
    let l = parent_length id in
    let ne : length id ≡ 1 → ⊥ = λ s. never (sym e ∙ eq-eqb (length id) 1 s) in
    omega arith

-- an identity is a child of the one without its last number
pub parent_child : (id : Ident) → 1 ≤ length id → IsChild (parent id) id
parent_child [] h = absurd (omega arith)
parent_child (x ∷ xs) h = last_of x xs
  where
    last_of : (x : ℕ) (xs : Ident) → IsChild (parent (x ∷ xs)) (x ∷ xs)
    last_of x [] = (x, refl)
    last_of x (y ∷ ys) = let r = last_of y ys in (r.0, ap (λ z. x ∷ z) r.1)

pub identity_short : (id : Ident) → is_identity id ≡ true → length id ≤ 40
identity_short id h =
    let bounds = and_parts (nat_lt 0 (length id) && nat_le (length id) most_numbers) (list_all is_number id) h in
    leb-true (length id) most_numbers (and_parts (nat_lt 0 (length id)) (nat_le (length id) most_numbers) bounds.0).1
