-- Nothing else is found than what was said.
use Rattle.std.proofs.Common.{◌≡◌, ◌⊎◌, Bool, true, false, inl, inr, ap, ◌∙◌, subst}
use Rattle.yw_judge.specs.Ends.{verdict_of, IsVerdictOf, Says}
use Rattle.yw_judge.specs.declared.judgement.Judgement.{Ghosts as Judgements}
use Rattle.yw_judge.specs.declared.verdict.Verdict.{Verdict}
use Rattle.yw_judge.specs.declared.verdict.Verdict.TheVariants.{Accepted, Refused, Memory, Write}
use Rattle.yw_outside.specs.declared.desk.Desk.{Ghosts}

module _ {D F : Type 0} (g : Ghosts D) (j : Judgements F) (verdict : Verdict) (finding other : F) (old new : D) (same : finding ≡ other) where
  pub says_only : Says g j verdict finding old new → Says g j verdict other old new
  says_only says = subst (λ (f : F). Says g j verdict f old new) same says

  pub judged_by : (verdict ≡ verdict_of (j.accepts finding)) ⊎ (verdict ≡ Write) ⊎ ((verdict ≡ Memory) × (new ≡ old)) → IsVerdictOf (j.accepts other) verdict
  judged_by (inl e) = inl (e ∙ ap (λ (f : F). verdict_of (j.accepts f)) same)
  judged_by (inr (inl e)) = inr (inr (inr e))
  judged_by (inr (inr m)) = inr (inl m.0)

of_finding : (accepts : Bool) (verdict : Verdict) → verdict ≡ verdict_of accepts → (verdict ≡ Accepted) ⊎ (verdict ≡ Refused) ⊎ (verdict ≡ Memory)
of_finding true verdict e = inl e
of_finding false verdict e = inr (inl e)

-- where no say failed, there is a verdict or no memory
pub completed : {D : Type 0} (accepts : Bool) (verdict : Verdict) (old new : D) (WriteRose : Type 0) → (verdict ≡ verdict_of accepts) ⊎ (verdict ≡ Write) ⊎ ((verdict ≡ Memory) × (new ≡ old))
    → (verdict ≡ Write → WriteRose) → (WriteRose → ⊥) → (verdict ≡ Accepted) ⊎ (verdict ≡ Refused) ⊎ (verdict ≡ Memory)
completed accepts verdict old new WriteRose (inl e) write none = of_finding accepts verdict e
completed accepts verdict old new WriteRose (inr (inl e)) write none = absurd (none (write e))
completed accepts verdict old new WriteRose (inr (inr m)) write none = inr (inr m.0)
