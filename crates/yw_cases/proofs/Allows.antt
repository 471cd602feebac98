-- Where an event is allowed in a plain state: what is left of its test.
use Rattle.std.proofs.Common.{ap, ◌∙◌}
use Rattle.std.proofs.Math.Bool.{and-true}
use Rattle.std.specs.Prelude.{Bool, List, false, not, true, ℕ, ◌&&◌, ◌≡◌}
use Rattle.yw_cases.specs.Ending.{case_ends}
use Rattle.yw_cases.specs.Items.{item_goes, item_suits}
use Rattle.yw_cases.specs.declared.items.ItemEvent.TheVariants.{CompleteEmpty, CompleteSub, Start, StartSub}
use Rattle.yw_plain.specs.Plain.{PlainWords}
use Rattle.yw_state.specs.Allowed.{allows}
use Rattle.yw_state.specs.Identity.{Ident, case_ident}
use Rattle.yw_state.specs.Joins.{at_output}
use Rattle.yw_state.specs.State.{State}
use Rattle.yw_state.specs.Texts.{Said}
use Rattle.yw_state.specs.Words.{busy, clear, held}
use Rattle.yw_state.specs.declared.event.Event.TheVariants as events

module _ (s : State) (w : PlainWords s) where
  -- it is clear where work isn't held
  pub clear_there : (j : Ident) → held s j ≡ false → clear s j ≡ true
  clear_there j unheld = w.clear j ∙ ap not unheld

  pub only_clear : (j : Ident) (b : Bool) → (clear s j && b) ≡ (not (held s j) && b)
  only_clear j b = ap (λ c. c && b) (w.clear j)

  pub free : (j : Ident) (b : Bool) → (clear s j && not (busy s j) && b) ≡ (not (held s j) && b)
  free j b =
      ap (λ c. c && not (busy s j) && b) (w.clear j)
      ∙ ap (λ c. not (held s j) && not c && b) (w.busy j)
      ∙ ap (λ c. c && b) (and-true (not (held s j)))

  pub start_as : (j : Ident) (who : List ℕ) (said : Said) → allows s (events.Start j who) said ≡ item_goes s Start j
  unfolding allows
  start_as j who said = free j (item_suits s Start j)

  pub empty_as : (j : Ident) (said : Said) → allows s (events.CompleteEmpty j) said ≡ item_goes s CompleteEmpty j
  unfolding allows
  empty_as j said = only_clear j (item_suits s CompleteEmpty j)

  pub sub_starts_as : (j : Ident) (said : Said) → allows s (events.StartSub j) said ≡ item_goes s StartSub j
  unfolding allows
  sub_starts_as j said = free j (item_suits s StartSub j)

  pub sub_ends_as : (j : Ident) (said : Said) → allows s (events.CompleteSub j) said ≡ (item_goes s CompleteSub j && at_output s j)
  unfolding allows
  sub_ends_as j said = ap (λ b. b && at_output s j) (free j (item_suits s CompleteSub j))

  pub finish_as : (n : ℕ) (said : Said) → allows s (events.Finish n) said ≡ case_ends s n
  unfolding allows
  finish_as n said = free (case_ident n) (at_output s (case_ident n))
