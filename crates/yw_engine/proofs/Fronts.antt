-- What a command of a case breaks first, from what is tried in front, that its case is quiet, and what is tried behind.
use Rattle.std.proofs.Common.{◌≡◌, Bool, Err, List, None, Ok, Option, Result, Some, false, refl, subst, sym, true, ℕ}
use Rattle.std.specs.Prelude.{IsErrAnd}
use Rattle.yw_breaks.specs.Tables.{Joins}
use Rattle.yw_engine.specs.Decides.{BreaksNow, BreaksQuiet, Decides, Makes, TellsRest, quiet_rule}
use Rattle.yw_engine.specs.declared.fault.Decided.{Decided}
use Rattle.yw_engine.specs.declared.fault.EngineFault.{EngineFault}
use Rattle.yw_engine.specs.declared.fault.EngineFault.TheVariants as faults
use Rattle.yw_standing.specs.State.{state_of}
use Rattle.yw_standing.specs.declared.standing.Standing.{Standing}
use Rattle.yw_texts.specs.Texts.{reader}
use Rattle.yw_state.specs.Broken.{Check, First, placeless}
use Rattle.yw_state.specs.Identity.{Ident}
use Rattle.yw_base.specs.Identity.{case_number}
use Rattle.yw_state.specs.declared.command.Command.{Command}
use Rattle.yw_state.specs.declared.rule.Refusal.{Refusal}
use Rattle.yw_state.specs.declared.rule.Rule.{Rule}

-- what the look at a case tells is what the check finds that it is quiet
breaks_quiet : (h : Standing) (n : ℕ) (quiet : Bool) → TellsRest h n quiet → BreaksQuiet h n (quiet_rule quiet)
breaks_quiet h n true tells = tells
breaks_quiet h n false tells = (tells, refl)

module _ (h : Standing) (c : Command) (j : Ident) (front rest : List Check) (joins : Joins reader (state_of h) c j front rest) where
  -- a rule that is broken in front
  pub in_front : (rule : Rule) → First front (Some (placeless rule)) → BreaksNow h c (Some (placeless rule))
  in_front rule first = joins.in_front (placeless rule) first

  module _ (first : First front None) (quiet : Bool) (tells : TellsRest h (case_number j) quiet) (found : Option Refusal)
      (is : found ≡ quiet_rule quiet) where
    breaks : BreaksQuiet h (case_number j) found
    breaks = subst (BreaksQuiet h (case_number j)) (sym is) (breaks_quiet h (case_number j) quiet tells)

    -- that the case isn't quiet
    pub moving : (refusal : Refusal) → found ≡ Some refusal → BreaksNow h c (Some refusal)
    moving refusal some =
        let at : BreaksQuiet h (case_number j) (Some refusal) = subst (BreaksQuiet h (case_number j)) some breaks in
        subst (λ (o : Refusal). BreaksNow h c (Some o)) (sym at.1) (joins.moving first at.0)

    -- else what is broken behind
    pub behind : found ≡ None → (last : Option Refusal) → First rest last → BreaksNow h c last
    behind none last broken = joins.behind last first (subst (BreaksQuiet h (case_number j)) none breaks) broken

-- what is refused before its event is made
refused : (h : Standing) (c : Command) (fault : EngineFault) → Makes h c (Err fault) → Decides h c (Err fault) h
refused h c (faults.Refused refusal) breaks = record { breaks = breaks; same = refl }
refused h c faults.Memory none = tt
refused h c faults.Spent never = never

pub refuses : (h : Standing) (c : Command) (fault : EngineFault) → Makes h c (Err fault) → (result : Result Decided EngineFault)
    → IsErrAnd result (λ x. x ≡ fault) → Decides h c result h
refuses h c fault makes (Ok d) is = absurd is
refuses h c fault makes (Err x) is = subst (λ (z : EngineFault). Decides h c (Err z) h) (sym is) (refused h c fault makes)
