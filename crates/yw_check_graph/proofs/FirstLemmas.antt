-- The first of some numbers without a property, and the first of some demands that isn't met.
use Rattle.std.proofs.Common.{◌≡◌, ℕ, ◌<◌, List, [], ◌∷◌, length, get_or, Some, None, arith}
use Rattle.yw_accept.specs.declared.broken.Broken.{Broken}
use Rattle.yw_accept.specs.Order.{Demand, InOrder}
use Rattle.yw_check_graph.specs.Nets.{IsFirstWithout}
use Rattle.yw_check_graph.proofs.OrderLemmas.{order_none, order_some}

some_element : {A : Type 0} (xs : List A) (k : ℕ) → k < length xs → A
some_element [] k lt = absurd (omega (arith, lt))
some_element (x ∷ xs) k lt = x

module _ {A : Type 0} (Holds : A → Type 0) (fault : A → Broken) (P : ℕ → Type 0) (xs : List A) (count : ℕ) (all : count ≡ length xs) where
  pub first_none : ((k : ℕ) (d : A) → k < length xs → P k → Holds (get_or xs k d)) → IsFirstWithout P count None → InOrder (λ x. Demand (Holds x) (fault x)) xs None
  first_none holds h = order_none (λ x. Demand (Holds x) (fault x)) xs (λ k d lt. holds k d lt (h k (omega (arith, lt, all))))

  pub first_some : ((k : ℕ) (d : A) → k < length xs → P k → Holds (get_or xs k d)) → ((k : ℕ) (d : A) → k < length xs → Holds (get_or xs k d) → P k) → (found : ℕ) (broken : Broken) → IsFirstWithout P count (Some found) → ((d : A) → broken ≡ fault (get_or xs found d)) → InOrder (λ x. Demand (Holds x) (fault x)) xs (Some broken)
  first_some holds only found broken h is =
      let lt : found < length xs = omega (arith, h.0, all) in
      let e : A = some_element xs found lt in
      order_some (λ x. Demand (Holds x) (fault x)) xs found e broken lt
      (λ i d le. holds i d (omega (arith, lt, le)) (h.1 i le))
      ((λ holds_there. h.2 (only found e lt holds_there)), is e)
