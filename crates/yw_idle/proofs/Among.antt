-- What stands in a list of identities.
use Rattle.std.specs.Prelude.{◌≡◌, ℕ, ◌∷◌, [], true, List, map}
use Rattle.std.specs.List.{All, list_any}
use Rattle.std.proofs.Common.{◌∙◌, ap, subst, inl, inr}
use Rattle.std.proofs.lemmas.Bool.{or_left, or_right}
use Rattle.std.proofs.lemmas.List.Elements.{All-head, All-tail}
use Rattle.yw_base.specs.Identity.{child, parent}
use Rattle.yw_moved.proofs.Parents.{is_same, parent_child, same_itself}
use Rattle.yw_state.proofs.Entries.{IsIn}
use Rattle.yw_state.proofs.Tests.{never, or_cases}
use Rattle.yw_state.specs.Identity.{Ident, same}

pub in_all : {A : Type 0} (P : A → Type 0) (xs : List A) (x : A) → All P xs → IsIn xs x → P x
in_all P [] x each within = absurd within
in_all P (y ∷ ys) x each (inl is) = subst P is (All-head P y ys each)
in_all P (y ∷ ys) x each (inr rest) = in_all P ys x (All-tail P y ys each) rest

pub first_of : (a : Ident) (bs : List Ident) → list_any (same a) (a ∷ bs) ≡ true
first_of a bs = or_left _ _ (same_itself a)

pub second_of : (a b : Ident) (bs : List Ident) → list_any (same a) (b ∷ a ∷ bs) ≡ true
second_of a b bs = or_right (same a b) _ (first_of a bs)

pub third_of : (a b c : Ident) (bs : List Ident) → list_any (same a) (b ∷ c ∷ a ∷ bs) ≡ true
third_of a b c bs = or_right (same a b) _ (second_of a c bs)

pub fourth_of : (a b c d : Ident) (bs : List Ident) → list_any (same a) (b ∷ c ∷ d ∷ a ∷ bs) ≡ true
fourth_of a b c d bs = or_right (same a b) _ (third_of a c d bs)

-- what is numbered below i lies directly below it
pub child_made : (i k : Ident) (ns : List ℕ) → list_any (same k) (map (child i) ns) ≡ true → parent k ≡ i
child_made i k [] made = never made
child_made i k (n ∷ ns) made =
    elim (or_cases (same k (child i n)) _ made) [
      | inl here ↦ ap parent (is_same k (child i n) here) ∙ parent_child i n
      | inr rest ↦ child_made i k ns rest
    ]
