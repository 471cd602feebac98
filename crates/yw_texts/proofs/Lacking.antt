-- What can't be lacking, and how one such follows from another.
use Rattle.std.proofs.Common.{◌⊎◌, List, [], ◌∷◌, ◌++◌, Option, None, Some, inl, inr, refl}
use Rattle.yw_accept.specs.Order.{Check, Demand, Then, InOrder, InTurn}
use Rattle.yw_accept.specs.declared.broken.Broken.{Broken}
use Rattle.yw_texts.specs.Lacking.{CannotLack}

pub here : {A : Type 0} → A → CannotLack A
here x = λ no. no x

pub follows : {A B : Type 0} → CannotLack A → (A → CannotLack B) → CannotLack B
follows a f = λ no. a (λ x. f x no)

-- something holds or it doesn't
pub decided : (A : Type 0) → CannotLack (A ⊎ (A → ⊥))
decided A = λ no. no (inr (λ x. no (inl x)))

-- ---- checks find something or nothing

abbrev pub CannotLackFinding : Check → Type 0
CannotLackFinding check = CannotLack ((found : Option Broken) × check found)

pub demand_finds : (holds : Type 0) (fault : Broken) → CannotLackFinding (Demand holds fault)
demand_finds holds fault = follows (decided holds) either
  where
    either : holds ⊎ (holds → ⊥) → CannotLackFinding (Demand holds fault)
    either (inl met) = here (None, met)
    either (inr missed) = here (Some fault, (missed, refl))

pub then_finds : (first second : Check) → CannotLackFinding first → CannotLackFinding second → CannotLackFinding (Then first second)
then_finds first second one two = follows one (λ f. both f.0 f.1)
  where
    both : (found : Option Broken) → first found → CannotLackFinding (Then first second)
    both (Some x) h = here (Some x, inl h)
    both None h = follows two (λ t. behind t.0 t.1)
      where
        behind : (found : Option Broken) → second found → CannotLackFinding (Then first second)
        behind (Some y) k = here (Some y, inr (h, k))
        behind None k = here (None, (h, k))

pub in_order_finds : {A : Type 0} (check : A → Check) → ((x : A) → CannotLackFinding (check x)) → (xs : List A) → CannotLackFinding (InOrder check xs)
in_order_finds check each [] = here (None, refl)
in_order_finds check each (x ∷ xs) = then_finds (check x) (InOrder check xs) (each x) (in_order_finds check each xs)

pub in_turn_finds : {A : Type 0} (check : List A → A → Check) → ((seen : List A) (x : A) → CannotLackFinding (check seen x)) → (seen xs : List A) → CannotLackFinding (InTurn check seen xs)
in_turn_finds check each seen [] = here (None, refl)
in_turn_finds check each seen (x ∷ xs) = then_finds (check seen x) (InTurn check (seen ++ x ∷ []) xs) (each seen x) (in_turn_finds check each (seen ++ x ∷ []) xs)
