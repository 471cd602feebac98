-- Answers that decide a fact: they are true exactly where it holds.
use Rattle.std.proofs.Common.{◌≡◌, ◌↔◌, ℕ, ◌+◌, ◌<◌, ◌≤◌, Bool, true, false, List, [], ◌∷◌, ◌++◌, length, get_or, take, All, IsTrue, Option, Some, option_to_list, refl, sym, ◌∙◌, subst, true≢false}
use Rattle.std.proofs.lemmas.List.{take_more, take_all}
use Rattle.std.proofs.lemmas.List.Elements.{All-push, All-weaker, All-cons, All-nil, All-head}

pub says_yes : {P : Type 0} → P → IsTrue true ↔ P
says_yes p = (λ _. p, λ _. refl)

pub says_no : {P : Type 0} → (P → ⊥) → IsTrue false ↔ P
says_no h = (λ t. absurd (true≢false (sym t)), λ p. absurd (h p))

module _ {P : Type 0} (b : Bool) (decides : IsTrue b ↔ P) where
  pub refuted : b ≡ false → P → ⊥
  refuted f p = true≢false (sym (decides.1 p) ∙ f)

  -- the answer for what holds exactly where this does
  pub decides_along : {Q : Type 0} → (P → Q) → (Q → P) → IsTrue b ↔ Q
  decides_along to from = (λ t. to (decides.0 t), λ q. decides.1 (from q))

-- of what may be missing
pub all_of_some : {A : Type 0} (P : A → Type 0) (o : Option A) (x y : A) → o ≡ Some x → y ≡ x → (b : Bool) → IsTrue b ↔ P y → IsTrue b ↔ All P (option_to_list o)
all_of_some {A} P o x y is same b decides =
    let Q : A → Type 0 = λ z. IsTrue b ↔ P z in
    let R : Option A → Type 0 = λ p. IsTrue b ↔ All P (option_to_list p) in
    subst R (sym is) (decides_along b (subst Q same decides) (λ p. All-cons P x [] p (All-nil P)) (λ all. All-head P x [] all))

-- ---- a loop over elements that stops at the first for which the answer is false
module _ {A : Type 0} (P : A → Type 0) (xs : List A) (i : ℕ) where
  module _ (x : A) (lt : i < length xs) (is : x ≡ get_or xs i x) (fit : Bool) (decides : IsTrue fit ↔ P x) where
    pub all_more : fit ≡ true → All P (take i xs) → All P (take (i + 1) xs)
    all_more t before =
        let Q : A → Type 0 = λ y. All P (take i xs ++ y ∷ []) in
        subst (All P) (sym (take_more xs i x lt)) (subst Q is (All-push P (take i xs) x before (decides.0 t)))

    pub all_stops : fit ≡ false → IsTrue false ↔ All P xs
    all_stops f = says_no (λ all. refuted fit decides f (subst P (sym is) (all i x lt)))

  pub all_ends : length xs ≤ i → All P (take i xs) → IsTrue true ↔ All P xs
  all_ends le before = says_yes (subst (All P) (take_all i xs le) before)

-- the same of each element
pub all_along : {A : Type 0} (P Q : A → Type 0) → ((x : A) → P x → Q x) → ((x : A) → Q x → P x) → (xs : List A) (b : Bool) → IsTrue b ↔ All P xs → IsTrue b ↔ All Q xs
all_along P Q to from xs b decides = decides_along b decides (All-weaker P Q to xs) (All-weaker Q P from xs)
