-- A check behind a check, and a loop over checks in order.
use Rattle.std.proofs.Common.{◌≡◌, ℕ, ◌+◌, ◌<◌, ◌≤◌, inl, inr, List, [], ◌∷◌, ◌++◌, length, get_or, drop, Option, Some, None, refl, sym, subst}
use Rattle.std.proofs.lemmas.List.{drop_all, drop_more}
use Rattle.yw_accept.specs.declared.broken.Broken.{Broken}
use Rattle.yw_accept.specs.Order.{Check, Then, InOrder, InTurn}

-- the first finds nothing
pub then_second : (first second : Check) → first None → (r : Option Broken) → second r → Then first second r
then_second first second h None g = (h, g)
then_second first second h (Some found) g = inr (h, g)

module _ {A : Type 0} (check : A → Check) (xs : List A) where
  -- whatever the checks of the rest find, all of them find
  abbrev pub SoFar : ℕ → Type 0
  SoFar i = (r : Option Broken) → InOrder check (drop i xs) r → InOrder check xs r

  pub goes_on : (i : ℕ) (x d : A) → i < length xs → x ≡ get_or xs i d → SoFar i → check x None → SoFar (i + 1)
  goes_on i x d lt is so_far h = λ r g.
      let P : List A → Type 0 = λ ys. InOrder check ys r in
      let Q : A → Type 0 = λ y. check y None in
      so_far r (subst P (sym (drop_more xs i d lt)) (then_second (check (get_or xs i d)) (InOrder check (drop (i + 1) xs)) (subst Q is h) r g))

  pub stops : (i : ℕ) (x d : A) (found : Broken) → i < length xs → x ≡ get_or xs i d → SoFar i → check x (Some found) → InOrder check xs (Some found)
  stops i x d found lt is so_far h =
      let P : List A → Type 0 = λ ys. InOrder check ys (Some found) in
      let Q : A → Type 0 = λ y. check y (Some found) in
      so_far (Some found) (subst P (sym (drop_more xs i d lt)) (inl (subst Q is h)))

  pub ends : (i : ℕ) → length xs ≤ i → SoFar i → InOrder check xs None
  ends i le so_far =
      let P : List A → Type 0 = λ ys. InOrder check ys None in
      so_far None (subst P (sym (drop_all i xs le)) refl)

-- the same as a loop's facts say it: the elements come from a slice that is equal to the list, and what the check of an
-- element found is what it answered
module _ {A : Type 0} (check : A → Check) (xs items : List A) (same : items ≡ xs) (i : ℕ) (x : A) where
  -- the next element has nothing at fault
  pub passes : (found : Option Broken) → i < length items → x ≡ get_or items i x → SoFar check xs i → check x found → found ≡ None → SoFar check xs (i + 1)
  passes found lt is so_far h none =
      let P : List A → Type 0 = λ ys. i < length ys in
      let Q : List A → Type 0 = λ ys. x ≡ get_or ys i x in
      let R : Option Broken → Type 0 = λ o. check x o in
      goes_on check xs i x x (subst P same lt) (subst Q same is) so_far (subst R none h)

  -- the next element is at fault
  pub fails : (found : Option Broken) (broken : Broken) → i < length items → x ≡ get_or items i x → SoFar check xs i → check x found → found ≡ Some broken → InOrder check xs (Some broken)
  fails found broken lt is so_far h some =
      let P : List A → Type 0 = λ ys. i < length ys in
      let Q : List A → Type 0 = λ ys. x ≡ get_or ys i x in
      let R : Option Broken → Type 0 = λ o. check x o in
      stops check xs i x x broken (subst P same lt) (subst Q same is) so_far (subst R some h)

-- no element is left
pub none_fails : {A : Type 0} (check : A → Check) (xs items : List A) → items ≡ xs → (i : ℕ) → length items ≤ i → SoFar check xs i → InOrder check xs None
none_fails {A} check xs items same i le so_far =
    let P : List A → Type 0 = λ ys. length ys ≤ i in
    ends check xs i (subst P same le) so_far

-- beside those before: the loop has `front` of them behind it, `seen` and the first i of xs
module _ {A : Type 0} (check : List A → A → Check) (seen xs : List A) where
  abbrev pub SoFarInTurn : ℕ → List A → Type 0
  SoFarInTurn i front = (r : Option Broken) → InTurn check front (drop i xs) r → InTurn check seen xs r

  pub turn_goes_on : (i : ℕ) (front : List A) (x d : A) → i < length xs → x ≡ get_or xs i d → SoFarInTurn i front → check front x None → SoFarInTurn (i + 1) (front ++ x ∷ [])
  turn_goes_on i front x d lt is so_far h = λ r g.
      let P : List A → Type 0 = λ ys. InTurn check front ys r in
      let Q : A → Type 0 = λ y. InTurn check front (y ∷ drop (i + 1) xs) r in
      so_far r (subst P (sym (drop_more xs i d lt)) (subst Q is (then_second (check front x) (InTurn check (front ++ x ∷ []) (drop (i + 1) xs)) h r g)))

  pub turn_stops : (i : ℕ) (front : List A) (x d : A) (found : Broken) → i < length xs → x ≡ get_or xs i d → SoFarInTurn i front → check front x (Some found) → InTurn check seen xs (Some found)
  turn_stops i front x d found lt is so_far h =
      let P : List A → Type 0 = λ ys. InTurn check front ys (Some found) in
      let Q : A → Type 0 = λ y. InTurn check front (y ∷ drop (i + 1) xs) (Some found) in
      so_far (Some found) (subst P (sym (drop_more xs i d lt)) (subst Q is (inl h)))

  pub turn_ends : (i : ℕ) (front : List A) → length xs ≤ i → SoFarInTurn i front → InTurn check seen xs None
  turn_ends i front le so_far =
      let P : List A → Type 0 = λ ys. InTurn check front ys None in
      so_far None (subst P (sym (drop_all i xs le)) refl)
