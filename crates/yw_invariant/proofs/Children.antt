-- What comes under something that stands, with the number that is drawn next: its identity is new.
use Rattle.std.specs.Prelude.{◌≡◌, ◌≤◌, ◌<◌, ◌+◌, ◌==◌, ◌&&◌, ℕ, true, false, [], ◌∷◌, length, is_some, nat_le, nat_lt, refl, IsNone}
use Rattle.std.specs.List.{list_all}
use Rattle.std.proofs.Common.{◌∙◌, ap, arith, length-append}
use Rattle.std.proofs.lemmas.Bool.{and_from, and_parts, and_right, eqb-true, le-leb, le-ltb, leb-true, lt-ltb, ltb-true}
use Rattle.std.proofs.lemmas.List.Folds.{list_all-append}
use Rattle.yw_base.specs.Identity.{is_identity, is_number, most_numbers, number_end, case_number, child, parent}
use Rattle.yw_state.proofs.Alike.{all_weaker}
use Rattle.yw_state.proofs.MapLemmas.{never}
use Rattle.yw_state.specs.Identity.{Ident}
use Rattle.yw_state.specs.Map.{get}
use Rattle.yw_state.specs.State.{State, Site}
use Rattle.yw_state.specs.Well.{NumbersFit, Stands, is_drawn}

pub parent_child : (i : Ident) (n : ℕ) → parent (child i n) ≡ i
parent_child [] n = refl
parent_child (x ∷ []) n = refl
parent_child (x ∷ y ∷ ys) n = ap (λ i. x ∷ i) (parent_child (y ∷ ys) n)

case_child : (i : Ident) (n : ℕ) → is_identity i ≡ true → case_number (child i n) ≡ case_number i
case_child [] n is = never is
case_child (x ∷ i) n is = refl

-- a number is drawn next, and so many are left
pub draws_next : (s : State) (n count : ℕ) → (n == s.next && nat_le (n + count) number_end) ≡ true → (n ≡ s.next) × (n + count ≤ number_end)
draws_next s n count e =
    let parts = and_parts (n == s.next) (nat_le (n + count) number_end) e in (eqb-true n s.next parts.0, leb-true (n + count) number_end parts.1)

-- The identity is new, and its numbers are drawn where the counter is this.
pub record IsNew (s : State) (k : Ident) (next : ℕ) : Type 0 where
  pub undrawn : is_drawn s k ≡ false
  pub later : s.next ≤ next
  pub most : next ≤ number_end
  pub identity : is_identity k ≡ true
  pub drawn : list_all (λ n. nat_lt n next) k ≡ true
  pub over : IsNone (get s.ended (case_number k))
  pub deep : 2 ≤ length k

module _ (s : State) (numbers : NumbersFit s) (i : Ident) (x : Site) (stands : Stands s i x) (short : length i < most_numbers) (n : ℕ) (is_counter : n ≡ s.next) (room : n + 1 ≤ number_end) where
  identity_there : is_identity i ≡ true
  identity_there = numbers.identities i x stands

  numbers_there : (nat_lt 0 (length i) ≡ true) × (list_all is_number i ≡ true)
  numbers_there =
      let parts = and_parts (nat_lt 0 (length i) && nat_le (length i) most_numbers) (list_all is_number i) identity_there in
      ((and_parts (nat_lt 0 (length i)) (nat_le (length i) most_numbers) parts.0).0, parts.1)

  length-child : length (child i n) ≡ length i + 1
  length-child = length-append i (n ∷ [])

  long : 1 ≤ length i
  long = let some : 0 < length i = ltb-true 0 (length i) numbers_there.0 in omega arith

  pub child_is_new : IsNew s (child i n) (n + 1)
  child_is_new =
      record {
        undrawn = list_all-append (λ m. nat_lt m s.next) i (n ∷ []) ∙ and_right (is_drawn s i) (nat_lt n s.next && true) (ap (λ b. b && true) (le-ltb n s.next (omega (arith, is_counter))));
        later = omega (arith, is_counter);
        most = room;
        identity = and_from _ _ (and_from _ _ (lt-ltb 0 (length (child i n)) (omega (arith, length-child))) (le-leb (length (child i n)) most_numbers (omega (arith, length-child, short))))
            (list_all-append is_number i (n ∷ [])
            ∙ and_from _ _ numbers_there.1 (and_from (is_number n) true (and_from _ _ (lt-ltb 0 n (omega (arith, is_counter, numbers.least))) (lt-ltb n number_end (omega (arith, room)))) refl));
        drawn = list_all-append (λ m. nat_lt m (n + 1)) i (n ∷ [])
            ∙ and_from _ _ (all_weaker (λ m. nat_lt m s.next) (λ m. nat_lt m (n + 1)) (λ m less. lt-ltb m (n + 1) (omega (arith, ltb-true m s.next less, is_counter))) i (numbers.drawn i x stands))
            (ap (λ b. b && true) (lt-ltb n (n + 1) (omega arith)));
        over = ap (λ m. is_some (get s.ended m)) (case_child i n identity_there) ∙ numbers.over i x stands;
        deep = omega (arith, length-child, long);
      }
