-- What a completion breaks, and the event that it asks for, by what is held.
use Rattle.std.proofs.Common.{◌<◌, ◌≡◌, ◌∙◌, List, Ok, Option, Some, None, ap, false, length, refl, subst, sym, true, ℕ}
use Rattle.std.specs.Prelude.{[], drop, option_and_then, option_map}
use Rattle.yw_asked.proofs.ItemsAsked as items
use Rattle.yw_asked.proofs.Unbroken.{none_broken}
use Rattle.yw_breaks.proofs.Joining as joining
use Rattle.yw_breaks.proofs.Whole as whole
use Rattle.yw_breaks.specs.Events.{CompleteMakes}
use Rattle.yw_breaks.specs.Finds.{Finds}
use Rattle.yw_breaks.specs.Tables.{complete_most, complete_rest}
use Rattle.yw_built.specs.Built.{is_built}
use Rattle.yw_cases.specs.State.{MayStand}
use Rattle.yw_cases.specs.Tried.{is_apart}
use Rattle.yw_engine.proofs.Commands.{IsBuiltOf, as_asked, of_kind}
use Rattle.yw_engine.proofs.Parts.{held_by}
use Rattle.yw_engine.specs.Decides.{Makes}
use Rattle.yw_known.specs.Here.{IsItemHere, SaysItem, as_item_at, as_net_at}
use Rattle.yw_library.specs.Holdings.{Holdings}
use Rattle.yw_library.specs.Names.{names_of}
use Rattle.yw_known.specs.declared.here.ItemHere.{ItemHere}
use Rattle.yw_standing.specs.State.{state_of}
use Rattle.yw_standing.specs.Tried.{LeadsOn}
use Rattle.yw_standing.specs.declared.standing.Standing.{Standing}
use Rattle.yw_texts.specs.Texts.{reader}
use Rattle.yw_state.proofs.Tests.{map_some, some_same}
use Rattle.yw_state.specs.Automatic.{case_of}
use Rattle.yw_state.specs.Broken.{First}
use Rattle.yw_state.specs.Given.{made_values, misfit}
use Rattle.yw_state.specs.Identity.{Ident}
use Rattle.yw_base.specs.Identity.{case_number, parent}
use Rattle.yw_state.specs.Legal.{IsAsked}
use Rattle.yw_state.specs.State.{ItemAt, State, item_at}
use Rattle.yw_state.specs.Values.{Row}
use Rattle.yw_state.specs.declared.command.Command.TheVariants as commands
use Rattle.yw_state.specs.declared.command.Given.{Given}
use Rattle.yw_state.specs.declared.event.Event.{Event}
use Rattle.yw_state.specs.declared.event.Event.TheVariants as events
use Rattle.yw_state.specs.declared.rule.Refusal.{Refusal}
use Rattle.yw_steps.specs.Completes.{CompleteBreaks, ItemIs}
use Rattle.yw_walk.specs.Computed.{is_computed}
use Rattle.yw_tree.proofs.Removed.{within}
use Rattle.yw_tree.specs.Forest.{IsForest, item_of}
use Rattle.yw_tree.specs.Places.{net_at}
use Rattle.yw_tree.specs.declared.Forest.{Forest}
use Rattle.yw_tree.specs.declared.Node.{out-Node}

abbrev out_of : Event → Row
out_of (events.Complete j out) = out
out_of e = []

-- the values of the event that is asked for are those that are made
made_so : (j : Ident) (o : Option Row) (out : Row) → Some (events.Complete j out) ≡ option_map (events.Complete j) o → o ≡ Some out
made_so j o out is =
    let x = map_some (events.Complete j) o (events.Complete j out) (sym is) in
    x.1 ∙ ap (λ e. Some (out_of e)) x.2

module _ (h : Standing) (may : MayStand h) (who : List ℕ) (j : Ident) (gs : List Given) where
  abbrev s : State
  s = state_of h

  abbrev misfit_of : ItemAt → Option (List ℕ)
  misfit_of x = misfit x.of_task.task.outs gs

  abbrev made_by : ItemAt → Option Row
  made_by x = made_values x.of_task.task.outs gs

  -- a rule that is broken before the last is the first
  pub most_first : (refusal : Refusal) → First (complete_most s who j gs) (Some refusal) → First (complete_rest s who j gs) (Some refusal)
  most_first refusal first = joining.in_front (complete_most s who j gs) (drop 6 (complete_rest s who j gs)) refusal first

  fits_all : First (complete_most s who j gs) None → option_and_then misfit_of (item_at s j) ≡ None
  fits_all first = (none_broken (complete_most s who j gs) first).1.1.1.1.1.0

  module _ (w : ItemHere) (says : SaysItem h.known h.forest j w) where
    -- what is found of the forest that is read is so of the state
    pub most_is : (f : Forest) → f ≡ h.forest → (found : Option Refusal)
        → ((known : Holdings) (i : Ident) → SaysItem known f i w → Finds known f (λ z. complete_most z who i gs) found) → First (complete_most s who j gs) found
    most_is f same found finds =
        finds h.known j (subst (λ (g : Forest). SaysItem h.known g j w) (sym same) says) s (held_by h h.known f refl same may)

    here : IsItemHere h.known h.forest s j w
    here = says s may.held

    pub its_task : (out-Node w.item.now).task < length w.outer.net.now.tasks
    its_task = within w.outer.net.now.tasks (out-Node w.item.now).task w.task.now here.of_net

    abbrev item_is : ItemIs s j w.outer.net.now
    item_is = record {
      there = as_item_at h.known w;
      known = here.at;
      net_is = refl;
      few = may.held.well.content.count (parent j) (as_net_at h.known w.outer) (out-Node w.item.now).task w.task.now here.outer.at here.of_net;
    }

    module _ (most : First (complete_most s who j gs) None) where
      -- the values that are given are those that its task makes
      pub fits : misfit w.task.now.outs gs ≡ None
      fits = sym (ap (option_and_then misfit_of) here.at) ∙ fits_all most

      module _ (out : Row) (makes : CompleteMakes h.known h.forest j gs out) where
        pub asked : IsAsked reader s (commands.Complete who j gs) (events.Complete j out)
        asked = makes s may.held who

        values_are : made_values w.task.now.outs gs ≡ Some out
        unfolding IsAsked
        values_are = sym (ap (option_and_then made_by) here.at) ∙ made_so j (option_and_then made_by (item_at s j)) out asked

        -- the last rule is the first, or none is broken
        pub last_first : (found : Option Refusal)
            → ((f : Forest) → IsForest f → item_of f j ≡ Some w.item.now → net_at f (parent j) ≡ Some w.outer.state.now → CompleteBreaks f w.outer.net.now j who out found)
            → First (complete_rest s who j gs) found
        last_first found breaks =
            let at : CompleteBreaks h.forest w.outer.net.now j who out found = breaks h.forest may.held.boxed here.found here.outer.stands.found in
            whole.complete_last s who j gs found most (at (names_of h.known) s gs item_is may.held.sites fits values_are)

  -- ---- the event

  module _ (e : Event) (makes : Makes h (commands.Complete who j gs) (Ok e)) where
    pub complete_leads : LeadsOn h e
    unfolding IsAsked
    complete_leads =
        (as_asked h (commands.Complete who j gs) e (items.complete_has_event reader s may.held.well who j gs makes.0)
        (λ d asked. some_same d e (asked ∙ sym makes.1))).1

    complete_kind : IsBuiltOf (Some (case_number j)) e
    unfolding IsAsked
    complete_kind =
        of_kind (events.Complete j) (IsBuiltOf (Some (case_number j))) (λ out. (refl, refl)) (option_and_then made_by (item_at s j)) e makes.1

    pub complete_built : is_built e ≡ true
    complete_built = complete_kind.0

    pub complete_plain : is_computed e ≡ false
    unfolding IsAsked
    complete_plain =
        of_kind (events.Complete j) (λ (z : Event). is_computed z ≡ false) (λ out. refl) (option_and_then made_by (item_at s j)) e makes.1

    pub complete_apart : is_apart e ≡ false
    unfolding IsAsked
    complete_apart =
        of_kind (events.Complete j) (λ (z : Event). is_apart z ≡ false) (λ out. refl) (option_and_then made_by (item_at s j)) e makes.1

    pub complete_case : (n : ℕ) → n ≡ case_number j → case_of e ≡ Some n
    complete_case n same = complete_kind.1 ∙ ap (λ k. Some k) (sym same)
