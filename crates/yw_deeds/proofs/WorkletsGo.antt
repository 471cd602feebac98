-- Worklets that begin, and that end.
use Rattle.std.proofs.Common.{ap, sym, ◌∙◌}
use Rattle.std.specs.Borrow.{Bor}
use Rattle.std.specs.Option.{option_copied}
use Rattle.std.specs.Prelude.{Bool, List, MatchOption, None, Option, Some, is_some, option_map, refl, ℕ, ◌&&◌, ◌≡◌}
use Rattle.yw_deeds.proofs.Deeds.{done_as, stands_all, tells_by}
use Rattle.yw_standing.proofs.HereLaw.{no_net}
use Rattle.yw_deeds.proofs.JudgedSo.{chosen_known}
use Rattle.yw_standing.proofs.Trying.{placed}
use Rattle.yw_standing.specs.Held.{StandsHeld}
use Rattle.yw_standing.specs.Here.{IsNetKnown}
use Rattle.yw_deeds.specs.Runs.{its_task}
use Rattle.yw_standing.specs.State.{state_of}
use Rattle.yw_standing.specs.Tried.{IsDone, LeadsOn, TellsLeads}
use Rattle.yw_deeds.specs.Worklets.{is_at_end, substitutes}
use Rattle.yw_standing.specs.declared.standing.Standing.{Standing}
use Rattle.yw_known.proofs.Standing.{kept_called, kept_named, kept_within, specs_are}
use Rattle.yw_known.specs.declared.known.KnownNet.{KnownNet}
use Rattle.yw_library.specs.Holdings as library
use Rattle.yw_library.specs.Holdings.{IsKept}
use Rattle.yw_library.specs.Names.{names_of}
use Rattle.yw_nest.specs.Does.{all_else}
use Rattle.yw_nest.specs.Items.{IsNetOf}
use Rattle.yw_spec.specs.declared.spec.Spec.{Spec}
use Rattle.yw_spec.specs.declared.task.Task.{Task}
use Rattle.yw_state.proofs.Tests.{and_left, and_right, never, nowhere, there, there_and}
use Rattle.yw_state.specs.Allowed.{allows}
use Rattle.yw_state.specs.Identity.{Ident}
use Rattle.yw_state.specs.Map.{get}
use Rattle.yw_state.specs.State.{item_at, item_part, net_at, net_part, spec_called}
use Rattle.yw_state.specs.declared.event.Event.TheVariants as events
use Rattle.yw_state.specs.declared.part.Checks.{Checks}
use Rattle.yw_texts.specs.Texts.{reader}
use Rattle.yw_tree.specs.declared.Forest.{Forest}
use Rattle.yw_worklet.proofs.Allowed.{may_choose, may_end}
use Rattle.yw_worklet.specs.Chosen.{ChoosesAs, IsItemOf, MayChoose, Substitutes}
use Rattle.yw_worklet.specs.Ends.{CompletesWorklet, EndsAs, MayEnd}

-- ---- one begins

module _ (old : Standing) (j : Ident) (name : List ℕ) where
  pub tells_substitute : (b : Bool) → substitutes (state_of old) j name ≡ b → TellsLeads old (events.Substitute j name) b
  unfolding allows
  tells_substitute b e = tells_by old (events.Substitute j name) refl tt b (λ said. e)

  module _ (held : StandsHeld old) (leads : LeadsOn old (events.Substitute j name)) where
    pub chosen_item : (o : Option (Bor Task)) → o ≡ None → option_copied o ≡ option_map its_task (item_at (state_of old) j) → ⊥
    unfolding allows
    chosen_item None none is =
        let next = and_left _ _ (and_left _ _ leads.1.allowed.0) in
        let y = there_and (item_part (state_of old) j) _ (held.well.marks.select j (and_left _ _ (and_left _ _ next))) in
        let x = there (item_at (state_of old) j) (held.well.parents.item_of_net j y.0 y.1) in
        nowhere (is ∙ ap (option_map its_task) x.1)
    chosen_item (Some t) none is = nowhere (sym none)

    -- the worklet is loaded
    pub chosen_spec : get (library.state_of old.known).specs name ≡ None → ⊥
    unfolding allows
    chosen_spec none =
        let known = chosen_known reader (state_of old) held.well j name (and_right _ _ leads.1.allowed.0) in
        never
        (sym (ap is_some none) ∙ sym (ap (λ m. is_some (get m name)) (specs_are old.known old.forest (state_of old) held)) ∙ known)

    module _ (worklet : Spec) (number : ℕ) (kept : IsKept old.known name worklet number) where
      named : names_of old.known number ≡ name
      named = kept_named old.known old.forest (state_of old) held name worklet number kept

      pub begins_there : MayChoose old.forest worklet j
      begins_there =
          may_choose (names_of old.known) old.forest (state_of old) worklet j name leads.1.said (stands_all old held) (kept_within old.known name worklet number kept)
          leads.1.allowed

      pub begun : (task : Task) (f : Forest) → IsItemOf (state_of old) j task → Substitutes task worklet number j old.forest f
          → IsDone old (events.Substitute j name) (record old { forest = f })
      begun task f item does =
          done_as old held (λ names. events.Substitute j (names number)) (ChoosesAs task worklet number j) all_else (events.Substitute j name)
          (record old { forest = f }) leads does
          (record { item = item; loaded = ap (spec_called (state_of old)) named ∙ kept_called old.known old.forest (state_of old) held name worklet number kept })
          (ap (events.Substitute j) named) (placed old f)

-- ---- one ends

module _ (old : Standing) (j : Ident) where
  pub tells_worklet : (b : Bool) → is_at_end (state_of old) j ≡ b → TellsLeads old (events.CompleteWorklet j) b
  unfolding allows
  tells_worklet b e = tells_by old (events.CompleteWorklet j) refl tt b (λ said. e)

  module _ (held : StandsHeld old) (leads : LeadsOn old (events.CompleteWorklet j)) where
    -- an item stands there, and a net
    pub item_wanted : (o : Option (Bor Task)) → o ≡ None → option_copied o ≡ option_map its_task (item_at (state_of old) j) → ⊥
    unfolding allows
    item_wanted None none is = let x = there_and (item_at (state_of old) j) _ (and_right _ _ (and_left _ _ leads.1.allowed.0)) in nowhere (is ∙ ap (option_map its_task) x.1)
    item_wanted (Some t) none is = nowhere (sym none)

    pub net_wanted : (o : Option KnownNet) → o ≡ None → MatchOption o (net_part (state_of old) j ≡ None) (IsNetKnown old.known old.forest (state_of old) j) → ⊥
    unfolding allows
    net_wanted None none is = let n = there_and (net_at (state_of old) j) _ (and_right _ _ leads.1.allowed.0) in nowhere (sym (no_net (state_of old) j is) ∙ n.1)
    net_wanted (Some w) none is = nowhere (sym none)

    pub ends_there : (worklet : Spec) → IsNetOf (state_of old) j worklet → MayEnd old.forest worklet j
    ends_there worklet of = may_end (names_of old.known) old.forest (state_of old) worklet j leads.1.said (stands_all old held) of leads.1.allowed

    pub ended : (task : Task) (worklet : Spec) (due : Checks) (f : Forest) → EndsAs task worklet j due (state_of old) → CompletesWorklet task worklet j due old.forest f
        → IsDone old (events.CompleteWorklet j) (record old { forest = f })
    ended task worklet due f needs does =
        done_as old held (λ names. events.CompleteWorklet j) (λ names s. EndsAs task worklet j due s) all_else (events.CompleteWorklet j) (record old { forest = f }) leads does
        needs refl (placed old f)
