-- A case is over, or goes on.
use Rattle.std.proofs.Common.{ap, sym, ◌∙◌}
use Rattle.std.proofs.Math.Bool.{and-false}
use Rattle.std.specs.Prelude.{Bool, List, false, is_some, not, refl, true, ℕ, ◌&&◌, ◌∷◌, [], ◌≡◌}
use Rattle.yw_base.specs.Identity.{is_identity}
use Rattle.yw_cases.proofs.Allows.{finish_as}
use Rattle.yw_cases.proofs.Trying.{done, words_of}
use Rattle.yw_library.specs.Ended.{ended_of}
use Rattle.yw_cases.specs.Ending.{case_ends}
use Rattle.yw_cases.specs.State.{MayStand}
use Rattle.yw_known.proofs.Items.{case_is}
use Rattle.yw_nest.specs.Cases.{Cancels, Finishes, with_ended}
use Rattle.yw_nest.specs.Does.{NeedsNothing}
use Rattle.yw_standing.proofs.Trying.{fails, leads_plainly, placed_over}
use Rattle.yw_standing.specs.State.{state_of}
use Rattle.yw_standing.specs.Tried.{IsDone, LeadsNowhere, LeadsOn, TellsLeads}
use Rattle.yw_standing.specs.declared.standing.Standing.{Standing}
use Rattle.yw_state.proofs.Standing.{at_net}
use Rattle.yw_state.proofs.Tests.{by_test, there_and}
use Rattle.yw_state.specs.Allowed.{allows}
use Rattle.yw_state.specs.Events.{after}
use Rattle.yw_state.specs.Identity.{case_ident}
use Rattle.yw_state.specs.Joins.{at_output, marked}
use Rattle.yw_state.specs.Map.{insert}
use Rattle.yw_state.specs.State.{NetAt, is_case, net_at}
use Rattle.yw_state.specs.Texts.{nothing}
use Rattle.yw_state.specs.Words.{held}
use Rattle.yw_state.specs.declared.event.Event.TheVariants as events
use Rattle.yw_state.specs.declared.part.Way.{Way}
use Rattle.yw_state.specs.declared.part.Way.TheVariants.{Cancelled, Finished}
use Rattle.yw_tree.specs.Cases.{case_at}
use Rattle.yw_tree.specs.declared.Forest.{Forest}

module _ (old : Standing) (may : MayStand old) (n : ℕ) where
  -- at no number but an identity's is a net at its end
  none_at_output : (is_identity (n ∷ []) ≡ true → ⊥) → at_output (state_of old) (case_ident n) ≡ false
  none_at_output off =
      by_test (at_output (state_of old) (case_ident n))
      (λ (ends : at_output (state_of old) (case_ident n) ≡ true).
      let net = there_and (net_at (state_of old) (case_ident n)) (λ (w : NetAt). marked (state_of old) (case_ident n) w.net.output) ends in
      let stands = at_net (state_of old) (case_ident n) net.0 net.1 in
      absurd (off (may.held.well.numbers.identities (case_ident n) stands.0 stands.1)))
      (λ e. e)

  -- so no case ends there
  pub no_number : (is_identity (n ∷ []) ≡ true → ⊥) → case_ends (state_of old) n ≡ false
  no_number off =
      ap (λ b. not (held (state_of old) (case_ident n)) && b) (none_at_output off) ∙ and-false (not (held (state_of old) (case_ident n)))

  -- ---- it is finished

  not_finished : case_ends (state_of old) n ≡ false → LeadsNowhere old (events.Finish n)
  not_finished e = fails old (events.Finish n) (λ said. finish_as (state_of old) (words_of old may) n said ∙ e)

  module _ (f : Forest) (es : List (ℕ × Way)) where
    pub finished : case_ends (state_of old) n ≡ true → ended_of es ≡ insert (ended_of old.ended) n Finished → Finishes n old.forest f
        → IsDone old (events.Finish n) (record old { forest = f; ended = es })
    finished e put does =
        done old may (λ names. events.Finish n) NeedsNothing (with_ended n Finished) (events.Finish n) (record old { forest = f; ended = es }) does tt refl
        (placed_over old f es n Finished put) refl (finish_as (state_of old) (words_of old may) n nothing ∙ e, tt)

  -- ---- it is cancelled, or goes on

  pub case_there : is_case (state_of old) (case_ident n) ≡ is_some (case_at n old.forest.cases)
  case_there = case_is old.known old.forest (state_of old) may.held n

  not_cancelled : is_case (state_of old) (case_ident n) ≡ false → LeadsNowhere old (events.Cancel n)
  unfolding allows
  not_cancelled e = fails old (events.Cancel n) (λ said. e)

  pub cancelled : (f : Forest) (es : List (ℕ × Way)) → is_case (state_of old) (case_ident n) ≡ true → ended_of es ≡ insert (ended_of old.ended) n Cancelled
      → Cancels n old.forest f → IsDone old (events.Cancel n) (record old { forest = f; ended = es })
  unfolding allows
  cancelled f es e put does =
      done old may (λ names. events.Cancel n) NeedsNothing (with_ended n Cancelled) (events.Cancel n) (record old { forest = f; ended = es }) does tt refl
      (placed_over old f es n Cancelled put) refl (e, tt)

  -- ---- whether it may be

  pub tells_finish : (b : Bool) → case_ends (state_of old) n ≡ b → TellsLeads old (events.Finish n) b
  tells_finish true e = leads_plainly old (events.Finish n) refl (finish_as (state_of old) (words_of old may) n nothing ∙ e, tt)
  tells_finish false e = not_finished e

  pub tells_cancel : (b : Bool) → is_case (state_of old) (case_ident n) ≡ b → TellsLeads old (events.Cancel n) b
  unfolding allows
  tells_cancel true e = leads_plainly old (events.Cancel n) refl (e, tt)
  tells_cancel false e = not_cancelled e

  pub tells_advance : (b : Bool) → is_case (state_of old) (case_ident n) ≡ b → TellsLeads old (events.Advance n) b
  unfolding allows
  tells_advance true e = leads_plainly old (events.Advance n) refl (e, tt)
  tells_advance false e = fails old (events.Advance n) (λ said. e)

  -- ---- where it is allowed

  pub finishes_so : LeadsOn old (events.Finish n) → case_ends (state_of old) n ≡ true
  finishes_so leads = sym (finish_as (state_of old) (words_of old may) n leads.1.said) ∙ leads.1.allowed.0

  pub cancels_so : LeadsOn old (events.Cancel n) → is_case (state_of old) (case_ident n) ≡ true
  unfolding allows
  cancels_so leads = leads.1.allowed.0

  pub advances_so : LeadsOn old (events.Advance n) → IsDone old (events.Advance n) old
  unfolding allows after
  advances_so leads = record { leads = record { said = nothing; says = refl; allowed = (leads.1.allowed.0, tt); then = refl }; boxed = may.held.boxed }
