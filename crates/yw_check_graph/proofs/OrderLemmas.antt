-- What checks in order find, by what each of them finds.
use Rattle.std.proofs.Common.{ℕ, zero, suc, ◌<◌, inl, inr, List, [], ◌∷◌, length, get_or, All, Some, None, refl, arith}
use Rattle.yw_accept.specs.declared.broken.Broken.{Broken}
use Rattle.yw_accept.specs.Order.{Check, InOrder}

module _ {A : Type 0} (check : A → Check) where
  pub order_none : (xs : List A) → All (λ x. check x None) xs → InOrder check xs None
  order_none [] h = refl
  order_none (x ∷ xs) h = (h zero x (omega arith), order_none xs (λ i d lt. h (suc i) d (omega (arith, lt))))

  pub order_some : (xs : List A) (k : ℕ) (e : A) (fault : Broken) → k < length xs → ((i : ℕ) (d : A) → i < k → check (get_or xs i d) None) → check (get_or xs k e) (Some fault) → InOrder check xs (Some fault)
  order_some [] k e fault lt h f = absurd (omega (arith, lt))
  order_some (x ∷ xs) zero e fault lt h f = inl f
  order_some (x ∷ xs) (suc k) e fault lt h f = inr (h zero x (omega arith), order_some xs k e fault (omega (arith, lt)) (λ i d le. h (suc i) d (omega (arith, le))) f)
