-- One mark, and no mark.
use Rattle.std.proofs.Common.{◌≡◌, ℕ, zero, suc, ◌+◌, ◌<◌, ◌⊎◌, inl, inr, List, [], ◌∷◌, length, get_or, set, replicate, Bool, true, false, not, cond, refl, sym, ap, ◌∙◌, subst, arith, get_or-set_same, get_or-set_other}
use Rattle.std.proofs.lemmas.List.{length-set, length-replicate, get_or-replicate}
use Rattle.std.proofs.lemmas.List.Sums.{sum_by-set}
use Rattle.std.proofs.lemmas.Bool.{false≢true}
use Rattle.std.proofs.lemmas.Bool.Decides.{nat_tests}
use Rattle.yw_reach.specs.Marking.{AreMarked, Marked}
use Rattle.yw_reach.specs.Search.{unmarked}

pub either : (b : Bool) → (b ≡ true) ⊎ (b ≡ false)
either true = inl refl
either false = inr refl

pub same_or : (m n : ℕ) → (m ≡ n) ⊎ (m ≡ n → ⊥)
same_or m n = grind (arith, nat_tests)

pub marked-within : (marks : List Bool) (k : ℕ) → Marked marks k → k < length marks
marked-within [] k m = absurd (false≢true m)
marked-within (b ∷ bs) zero m = omega arith
marked-within (b ∷ bs) (suc k) m = let h : k < length bs = marked-within bs k m in omega (arith, h)

pub no_mark : (n k : ℕ) → Marked (replicate n false) k → ⊥
no_mark n k m =
    let lt : k < n = omega (arith, marked-within (replicate n false) k m, length-replicate n false) in
    false≢true (sym (get_or-replicate n k false false lt) ∙ m)

module _ (marks : List Bool) (at : ℕ) (lt : at < length marks) where
  pub mark_there : Marked (set marks at true) at
  mark_there = get_or-set_same marks at true false lt

  pub mark_keeps : (k : ℕ) → Marked marks k → Marked (set marks at true) k
  mark_keeps k h = elim (same_or k at) [
    | inl e ↦ let P : ℕ → Type 0 = λ j. Marked (set marks at true) j in subst P (sym e) mark_there
    | inr ne ↦ get_or-set_other marks at k true false ne ∙ h
  ]

  pub mark_only : (k : ℕ) → Marked (set marks at true) k → Marked marks k ⊎ (at ≡ k)
  mark_only k h = elim (same_or k at) [
    | inl e ↦ inr (sym e)
    | inr ne ↦ inl (sym (get_or-set_other marks at k true false ne) ∙ h)
  ]

  pub unmarked-set : get_or marks at false ≡ false → unmarked (set marks at true) + 1 ≡ unmarked marks
  unmarked-set m =
      let f : Bool → ℕ = λ b. cond (not b) 1 0 in
      let one : f (get_or marks at false) ≡ 1 = ap f m in
      omega (arith, sum_by-set f marks at true false lt, one)

-- the mark of one node
pub one_marked : (count from : ℕ) (marks marks2 : List Bool) → from < count → marks ≡ replicate count false → marks2 ≡ set marks from true → AreMarked count (λ k. from ≡ k) marks2
one_marked count from marks marks2 lt e s =
    let len : length marks ≡ count = ap length e ∙ length-replicate count false in
    let within : from < length marks = omega (arith, lt, len) in
    let P : List Bool → Type 0 = λ ms. AreMarked count (λ k. from ≡ k) ms in
    subst P (sym s) (record {
      len = length-set marks from true ∙ len;
      only = λ k h. elim (mark_only marks from within k h) [
        | inl old ↦ absurd (no_mark count k (let Q : List Bool → Type 0 = λ ms. Marked ms k in subst Q e old))
        | inr is ↦ is
      ];
      all = λ k is. let Q : ℕ → Type 0 = λ j. Marked (set marks from true) j in subst Q is (mark_there marks from within);
    })

-- what is marked under one description is marked under another that says the same
pub marked-same : (count : ℕ) (P Q : ℕ → Type 0) (marks : List Bool) → ((k : ℕ) → P k → Q k) → ((k : ℕ) → Q k → P k) → AreMarked count P marks → AreMarked count Q marks
marked-same count P Q marks to from h = record {
  len = h.len;
  only = λ k m. to k (h.only k m);
  all = λ k q. h.all k (from k q);
}
