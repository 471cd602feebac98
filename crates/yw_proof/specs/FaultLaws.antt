-- A certificate has one first fault, or none.
use Rattle.std.proofs.Common.{◌≡◌, ◌⊎◌, ℕ, List, true, false, inl, inr, refl, ap, ◌∙◌, arith}
use Rattle.std.proofs.lemmas.Bool.Decides.{nat_tests}
use Rattle.std.specs.Prelude.{IsTrue, nat_lt, nat_le}
use Rattle.yw_proper.specs.First.{Demands, IsFirst, comes_before}
use Rattle.yw_proper.specs.Proper.{IsProper}
use Rattle.yw_proper.specs.declared.certificate.ProofFault.{ProofFault}
use Rattle.yw_proper.specs.declared.certificate.ProofFault.TheVariants.{Weight, Join, Split, Ends}
use Rattle.yw_spec.specs.declared.spec.Net.{Net}

-- of two faults one comes first, or they are the same
abbrev Ordered : ProofFault → ProofFault → Type 0
Ordered a b = (a ≡ b) ⊎ IsTrue (comes_before a b) ⊎ IsTrue (comes_before b a)

-- one number is below the other, or they are the same
neither : (j k : ℕ) → nat_lt j k ≡ false → nat_lt k j ≡ false → j ≡ k
neither j k e f = grind (arith, nat_tests)

same_kind : (of : ℕ → ProofFault) (j k : ℕ) → ((m n : ℕ) → comes_before (of m) (of n) ≡ nat_lt m n) → Ordered (of j) (of k)
same_kind of j k by =
    elim (nat_lt j k) as (λ b. nat_lt j k ≡ b → Ordered (of j) (of k)) [
      | true ↦ λ e. inr (inl (by j k ∙ e))
      | false ↦ λ e. elim (nat_lt k j) as (λ b. nat_lt k j ≡ b → Ordered (of j) (of k)) [
        | true ↦ λ f. inr (inr (by k j ∙ f))
        | false ↦ λ f. inl (ap of (neither j k e f))
      ] refl
    ] refl

not_below : (j k : ℕ) → nat_le j k ≡ false → nat_lt k j ≡ true
not_below j k e = grind (arith, nat_tests)

-- a join comes before the split of its own task and of later ones
join_or_split : (j k : ℕ) → IsTrue (nat_le j k) ⊎ IsTrue (nat_lt k j)
join_or_split j k =
    elim (nat_le j k) as (λ b. nat_le j k ≡ b → IsTrue (nat_le j k) ⊎ IsTrue (nat_lt k j)) [
      | true ↦ λ e. inl e
      | false ↦ λ e. inr (not_below j k e)
    ] refl

ordered : (a b : ProofFault) → Ordered a b
ordered (Weight j) (Weight k) = same_kind Weight j k (λ m n. refl)
ordered (Weight j) (Join k) = inr (inl refl)
ordered (Weight j) (Split k) = inr (inl refl)
ordered (Weight j) Ends = inr (inl refl)
ordered (Join j) (Weight k) = inr (inr refl)
ordered (Join j) (Join k) = same_kind Join j k (λ m n. refl)
ordered (Join j) (Split k) = elim (join_or_split j k) [ inl before ↦ inr (inl before) | inr behind ↦ inr (inr behind) ]
ordered (Join j) Ends = inr (inl refl)
ordered (Split j) (Weight k) = inr (inr refl)
ordered (Split j) (Join k) = elim (join_or_split k j) [ inl before ↦ inr (inr before) | inr behind ↦ inr (inl behind) ]
ordered (Split j) (Split k) = same_kind Split j k (λ m n. refl)
ordered (Split j) Ends = inr (inl refl)
ordered Ends (Weight k) = inr (inr refl)
ordered Ends (Join k) = inr (inr refl)
ordered Ends (Split k) = inr (inr refl)
ordered Ends Ends = inl refl

module _ (net : Net) (w : List ℕ) where
  -- one fault is the first
  pub fault-once : (a b : ProofFault) → IsFirst net w a → IsFirst net w b → a ≡ b
  fault-once a b p q =
      elim (ordered a b) [
        | inl same ↦ same
        | inr other ↦ elim other [ inl before ↦ absurd (p.unmet (q.earlier a before)) | inr behind ↦ absurd (q.unmet (p.earlier b behind)) ]
      ]

  -- a certificate meets each demand
  all_met : IsProper net w → (fault : ProofFault) → Demands net w fault
  all_met p (Weight k) = λ n at. p.weights k n at
  all_met p (Join k) = λ t at. (p.tasks k t at).join
  all_met p (Split k) = λ t at. (p.tasks k t at).split
  all_met p Ends = p.ends

  -- and has no fault
  pub proper_has_none : (fault : ProofFault) → IsProper net w → IsFirst net w fault → ⊥
  proper_has_none fault p first = first.unmet (all_met p fault)
