-- The identity of the net in which an item stands is one.
use Rattle.std.proofs.Common.{Bool, List, [], arith, false, length, refl, subst, suc, sym, take, true, zero, ℕ, ◌-◌, ◌∷◌, ◌≡◌, ◌≤◌}
use Rattle.std.proofs.lemmas.Bool.{and_from, and_parts, le-leb, lt-ltb}
use Rattle.std.specs.List.{list_all}
use Rattle.std.specs.Prelude.{nat_le, nat_lt, ◌&&◌}
use Rattle.yw_base.specs.Identity.{is_identity, is_number, most_numbers, parent}
use Rattle.yw_state.specs.Identity.{Ident, is_case_ident}
use Rattle.yw_tree.proofs.Parents.{identity_short, parent_length, parent_there}
use Rattle.yw_base.proofs.Parents.{identity_long, parent_is}

all_taken : {A : Type 0} (p : A → Bool) (k : ℕ) (xs : List A) → list_all p xs ≡ true → list_all p (take k xs) ≡ true
all_taken p zero [] h = refl
all_taken p zero (x ∷ xs) h = refl
all_taken p (suc k) [] h = refl
all_taken p (suc k) (x ∷ xs) h =
    let both = and_parts (p x) (list_all p xs) h in
    and_from (p x) (list_all p (take k xs)) both.0 (all_taken p k xs both.1)

pub parent_identity : (j : Ident) → is_identity j ≡ true → is_case_ident j ≡ false → is_identity (parent j) ≡ true
parent_identity j i below =
    let long = identity_long j i in
    let one : 1 ≤ length (parent j) = parent_there j long below in
    let most : length (parent j) ≤ most_numbers = (let s = identity_short j i in let l = parent_length j in omega arith) in
    let all = (and_parts (nat_lt 0 (length j) && nat_le (length j) most_numbers) (list_all is_number j) i).1 in
    and_from (nat_lt 0 (length (parent j)) && nat_le (length (parent j)) most_numbers) (list_all is_number (parent j))
    (and_from (nat_lt 0 (length (parent j))) (nat_le (length (parent j)) most_numbers) (lt-ltb 0 (length (parent j)) (omega arith)) (le-leb (length (parent j)) most_numbers most))
    (subst (λ z. list_all is_number z ≡ true) (sym (parent_is j long)) (all_taken is_number (length j - 1) j all))
