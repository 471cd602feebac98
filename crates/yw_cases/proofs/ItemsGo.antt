-- Items that go on.
use Rattle.std.proofs.Common.{ap, subst, sym, ◌∙◌}
use Rattle.std.specs.Prelude.{Bool, IsSome, List, MatchOption, None, Option, Some, false, not, refl, true, ℕ, ◌&&◌, ◌∷◌, ◌≡◌}
use Rattle.yw_cases.proofs.Allows.{empty_as, start_as, sub_ends_as, sub_starts_as}
use Rattle.yw_cases.proofs.Trying.{done, stands_well, words_of}
use Rattle.yw_cases.specs.Items.{item_goes, item_suits, suits}
use Rattle.yw_cases.specs.State.{MayStand}
use Rattle.yw_cases.specs.declared.items.ItemEvent.{ItemEvent}
use Rattle.yw_cases.specs.declared.items.ItemEvent.TheVariants.{CompleteEmpty, CompleteSub, Start, StartSub}
use Rattle.yw_known.specs.Here.{IsNetHere}
use Rattle.yw_library.specs.Names.{names_of}
use Rattle.yw_known.specs.declared.here.NetHere.{NetHere}
use Rattle.yw_known.specs.declared.known.KnownNet.{KnownNet}
use Rattle.yw_nest.proofs.FromState.{empty_stands, inner_is, item_stands, sub_ends, sub_starts}
use Rattle.yw_nest.specs.Does.{NeedsNothing, all_else}
use Rattle.yw_nest.specs.Items.{CompletesEmpty, CompletesSub, EndsAs, IsNetOf, StartsSub, SubMayEnd, SubMayStart}
use Rattle.yw_standing.proofs.Trying.{fails, leads_plainly, placed}
use Rattle.yw_standing.specs.Here.{IsNetKnown}
use Rattle.yw_standing.specs.State.{state_of}
use Rattle.yw_standing.specs.Tried.{IsDone, LeadsNowhere, LeadsOn, TellsLeads}
use Rattle.yw_standing.specs.declared.standing.Standing.{Standing}
use Rattle.yw_state.proofs.Tests.{and_right, never, nowhere, there_and}
use Rattle.yw_state.specs.Allowed.{Allowed}
use Rattle.yw_state.specs.Broken.{Check, First, test}
use Rattle.yw_state.specs.Identity.{Ident}
use Rattle.yw_base.specs.Identity.{parent}
use Rattle.yw_state.specs.Joins.{at_output}
use Rattle.yw_state.specs.Judged.{task_place}
use Rattle.yw_state.specs.Nets.{is_atomic}
use Rattle.yw_state.specs.Options.{is_some_and}
use Rattle.yw_state.specs.State.{ItemAt, item_at, no_checks}
use Rattle.yw_state.specs.Texts.{nothing}
use Rattle.yw_state.specs.Words.{held, is_ready}
use Rattle.yw_state.specs.declared.event.Event.TheVariants as events
use Rattle.yw_state.specs.declared.rule.Refusal.{Refusal}
use Rattle.yw_state.specs.declared.rule.Rule.{Rule}
use Rattle.yw_state.specs.declared.tree.TreeKind.TheVariants.{Post}
use Rattle.yw_steps.specs.Starts.{Starts}
use Rattle.yw_tree.specs.Forest.{item_of}
use Rattle.yw_tree.specs.declared.Forest.{Forest}

-- ---- a table of checks

-- a test that isn't broken passes
pub passed : (b : Bool) (r : Rule) (cs : List Check) (found : Option Refusal) → b ≡ false → First (test b r ∷ cs) found → First cs found
passed b r cs found unbroken first = subst (λ z. First (test z r ∷ cs) found) unbroken first

-- ---- what is said of the net in which an item stands

module _ (old : Standing) (j : Ident) where
  abbrev OuterIs : Option KnownNet → Type 0
  OuterIs o = MatchOption o (item_at (state_of old) j ≡ None) (IsNetKnown old.known old.forest (state_of old) (parent j))

  pub outer_found : (o : Option KnownNet) (w : KnownNet) → o ≡ Some w → OuterIs o → IsNetKnown old.known old.forest (state_of old) (parent j) w
  outer_found o w is found = subst OuterIs is found

  -- where there is none, no item is there
  pub outer_none : {A : Type 0} (o : Option KnownNet) → o ≡ None → OuterIs o → (event : ItemEvent) → item_goes (state_of old) event j ≡ true → A
  outer_none o is found event goes =
      let none : item_at (state_of old) j ≡ None = subst OuterIs is found in
      never
      (sym (ap (λ p. is_some_and p (λ (x : ItemAt). suits event x.part.stage x.of_task.task)) none)
      ∙ and_right (not (held (state_of old) j)) (item_suits (state_of old) event j) goes)

  pub outer_gone : {A : Type 0} (o : Option KnownNet) → o ≡ None → OuterIs o → (x : ItemAt) → item_at (state_of old) j ≡ Some x → A
  outer_gone o is found x at = let none : item_at (state_of old) j ≡ None = subst OuterIs is found in nowhere (sym none ∙ at)

module _ (old : Standing) (may : MayStand old) (j : Ident) where
  -- ---- a person starts it

  module _ (who : List ℕ) where
    pub not_started : item_goes (state_of old) Start j ≡ false → LeadsNowhere old (events.Start j who)
    not_started e = fails old (events.Start j who) (λ said. start_as (state_of old) (words_of old may) j who said ∙ e)

    module _ (goes : item_goes (state_of old) Start j ≡ true) where
      start_allowed : Allowed (state_of old) (events.Start j who) nothing
      start_allowed = (start_as (state_of old) (words_of old may) j who nothing ∙ goes, tt)

      pub start_stands : IsSome (item_of old.forest j)
      start_stands =
          let x = there_and (item_at (state_of old) j) (λ (x : ItemAt). is_ready x.part.stage && is_atomic x.of_task.task)
          (and_right (not (held (state_of old) j)) (item_suits (state_of old) Start j) goes) in
          item_stands (names_of old.known) old.forest (state_of old) (stands_well old may) j x.0 x.1

      pub started : (f : Forest) (name : List ℕ) → name ≡ who → Starts j name old.forest f → IsDone old (events.Start j who) (record old { forest = f })
      started f name same does =
          done old may (λ names. events.Start j name) NeedsNothing all_else (events.Start j who) (record old { forest = f }) does tt (ap (events.Start j) same) (placed old f) refl
          start_allowed

    pub starts_so : LeadsOn old (events.Start j who) → item_goes (state_of old) Start j ≡ true
    starts_so leads = sym (start_as (state_of old) (words_of old may) j who leads.1.said) ∙ leads.1.allowed.0

    pub tells_start : (b : Bool) → item_goes (state_of old) Start j ≡ b → TellsLeads old (events.Start j who) b
    tells_start true e = leads_plainly old (events.Start j who) refl (start_allowed e)
    tells_start false e = not_started e

  -- ---- one of an empty task is completed

  pub not_completed : item_goes (state_of old) CompleteEmpty j ≡ false → LeadsNowhere old (events.CompleteEmpty j)
  not_completed e = fails old (events.CompleteEmpty j) (λ said. empty_as (state_of old) (words_of old may) j said ∙ e)

  module _ (goes : item_goes (state_of old) CompleteEmpty j ≡ true) where
    empty_allowed : Allowed (state_of old) (events.CompleteEmpty j) nothing
    empty_allowed = (empty_as (state_of old) (words_of old may) j nothing ∙ goes, tt)

    pub empty_there : IsSome (item_of old.forest j)
    empty_there = empty_stands (names_of old.known) old.forest (state_of old) j nothing (stands_well old may) empty_allowed

    pub empty_completed : (f : Forest) → CompletesEmpty j old.forest f → IsDone old (events.CompleteEmpty j) (record old { forest = f })
    empty_completed f does =
        done old may (λ names. events.CompleteEmpty j) NeedsNothing all_else (events.CompleteEmpty j) (record old { forest = f }) does tt refl (placed old f) refl empty_allowed

  pub empties_so : LeadsOn old (events.CompleteEmpty j) → item_goes (state_of old) CompleteEmpty j ≡ true
  empties_so leads = sym (empty_as (state_of old) (words_of old may) j leads.1.said) ∙ leads.1.allowed.0

  pub tells_empty : (b : Bool) → item_goes (state_of old) CompleteEmpty j ≡ b → TellsLeads old (events.CompleteEmpty j) b
  tells_empty true e = leads_plainly old (events.CompleteEmpty j) refl (empty_allowed e)
  tells_empty false e = not_completed e

  -- ---- its child net begins

  pub not_begun : item_goes (state_of old) StartSub j ≡ false → LeadsNowhere old (events.StartSub j)
  not_begun e = fails old (events.StartSub j) (λ said. sub_starts_as (state_of old) (words_of old may) j said ∙ e)

  module _ (goes : item_goes (state_of old) StartSub j ≡ true) (w : NetHere) (outer : IsNetHere old.known old.forest (state_of old) (parent j) w) where
    begin_allowed : Allowed (state_of old) (events.StartSub j) nothing
    begin_allowed = (sub_starts_as (state_of old) (words_of old may) j nothing ∙ goes, tt)

    pub sub_may_start : SubMayStart old.forest w.spec.now j
    sub_may_start =
        sub_starts (names_of old.known) old.forest (state_of old) w.spec.now j nothing (stands_well old may) outer.spec_within outer.of_state begin_allowed

    pub begun : (f : Forest) → StartsSub w.spec.now j old.forest f → IsDone old (events.StartSub j) (record old { forest = f })
    begun f does =
        done old may (λ names. events.StartSub j) (λ names s. IsNetOf s (parent j) w.spec.now) all_else (events.StartSub j) (record old { forest = f }) does outer.of_state refl
        (placed old f) refl begin_allowed

  pub begins_so : LeadsOn old (events.StartSub j) → item_goes (state_of old) StartSub j ≡ true
  begins_so leads = sym (sub_starts_as (state_of old) (words_of old may) j leads.1.said) ∙ leads.1.allowed.0

  pub tells_begun : (b : Bool) → item_goes (state_of old) StartSub j ≡ b → TellsLeads old (events.StartSub j) b
  tells_begun true e = leads_plainly old (events.StartSub j) refl (sub_starts_as (state_of old) (words_of old may) j nothing ∙ e, tt)
  tells_begun false e = not_begun e

  -- ---- its child net ends

  pub not_ended : (item_goes (state_of old) CompleteSub j && at_output (state_of old) j) ≡ false → LeadsNowhere old (events.CompleteSub j)
  not_ended e = fails old (events.CompleteSub j) (λ said. sub_ends_as (state_of old) (words_of old may) j said ∙ e)

  module _ (goes : (item_goes (state_of old) CompleteSub j && at_output (state_of old) j) ≡ true) (w : NetHere)
      (outer : IsNetHere old.known old.forest (state_of old) (parent j) w) where
    end_allowed : Allowed (state_of old) (events.CompleteSub j) nothing
    end_allowed = (sub_ends_as (state_of old) (words_of old may) j nothing ∙ goes, tt)

    pub sub_may_end : SubMayEnd old.forest w.spec.now j
    sub_may_end = sub_ends (names_of old.known) old.forest (state_of old) w.spec.now j nothing (stands_well old may) outer.of_state end_allowed

    pub ended : (f : Forest) → CompletesSub w.spec.now j no_checks old.forest f → IsDone old (events.CompleteSub j) (record old { forest = f })
    ended f does =
        done old may (λ names. events.CompleteSub j) (λ names s. EndsAs w.spec.now j no_checks s) all_else (events.CompleteSub j) (record old { forest = f }) does
        (record {
          outer = outer.of_state;
          inner = inner_is (names_of old.known) old.forest (state_of old) w.spec.now j nothing (stands_well old may) outer.of_state end_allowed;
          checks = λ x there. sym ((words_of old may).rule (task_place x.of_task Post));
        })
        refl (placed old f) refl end_allowed

  pub ends_so : LeadsOn old (events.CompleteSub j) → (item_goes (state_of old) CompleteSub j && at_output (state_of old) j) ≡ true
  ends_so leads = sym (sub_ends_as (state_of old) (words_of old may) j leads.1.said) ∙ leads.1.allowed.0

  pub tells_ended : (b : Bool) → (item_goes (state_of old) CompleteSub j && at_output (state_of old) j) ≡ b → TellsLeads old (events.CompleteSub j) b
  tells_ended true e = leads_plainly old (events.CompleteSub j) refl (sub_ends_as (state_of old) (words_of old may) j nothing ∙ e, tt)
  tells_ended false e = not_ended e
