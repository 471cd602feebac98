-- Where a command breaks no rule, the event that is made of it is the one that it asks for, and leads on.
use Rattle.std.proofs.Common.{◌≡◌, ◌∙◌, List, Ok, Option, Some, None, ap, refl, subst, sym, true, ℕ}
use Rattle.std.specs.Prelude.{option_and_then, option_map}
use Rattle.yw_accepted.proofs.Loaded.{accepted_are_within}
use Rattle.yw_asked.proofs.CasesAsked as cases
use Rattle.yw_asked.proofs.ItemsAsked as items
use Rattle.yw_asked.proofs.TasksAsked as tasks
use Rattle.yw_asked.specs.Asked.{HasEvent}
use Rattle.yw_base.specs.declared.value.Value.{Value}
use Rattle.yw_breaks.specs.Events.{LaunchAsks}
use Rattle.yw_breaks.specs.Finds.{BreaksNext}
use Rattle.yw_built.specs.Built.{is_built}
use Rattle.yw_cases.specs.State.{MayStand}
use Rattle.yw_cases.specs.Tried.{IsNumbered, IsSpecNumbered, IsTaskNumbered}
use Rattle.yw_engine.specs.Decides.{BreaksNow, Makes}
use Rattle.yw_engine.proofs.Parts.{next_of}
use Rattle.yw_standing.specs.State.{state_of}
use Rattle.yw_standing.specs.Tried.{LeadsOn}
use Rattle.yw_standing.specs.declared.standing.Standing.{Standing}
use Rattle.yw_texts.specs.Texts.{reader}
use Rattle.yw_spec.specs.declared.spec.Net.{Net}
use Rattle.yw_state.proofs.Tests.{map_some, some_same}
use Rattle.yw_state.specs.Allowed.{are_roles}
use Rattle.yw_state.specs.Automatic.{case_of}
use Rattle.yw_state.specs.Broken.{checks}
use Rattle.yw_state.specs.Events.{Leads}
use Rattle.yw_state.specs.Given.{element_value, launch_values}
use Rattle.yw_state.specs.Identity.{Ident}
use Rattle.yw_base.specs.Identity.{case_number}
use Rattle.yw_state.specs.Legal.{IsAsked}
use Rattle.yw_state.specs.State.{TaskAt, task_at, top_called}
use Rattle.yw_state.specs.declared.command.Command.{Command}
use Rattle.yw_state.specs.declared.command.Command.TheVariants as commands
use Rattle.yw_state.specs.declared.command.Given.{Given}
use Rattle.yw_state.specs.declared.event.Event.{Event}
use Rattle.yw_state.specs.declared.event.Event.TheVariants as events
use Rattle.yw_state.specs.declared.rule.Refusal.{Refusal}
use Rattle.yw_within.proofs.Finding.{well_holds_within}
use Rattle.yw_within.specs.Within.{HoldsWithin}

-- the command asks for the event, which leads on
abbrev pub Asks : Standing → Command → Event → Type 0
Asks h c e = IsAsked reader (state_of h) c e × LeadsOn h e

-- where it asks for no other
pub as_asked : (h : Standing) (c : Command) (e : Event) → HasEvent reader (state_of h) c
    → ((d : Event) → IsAsked reader (state_of h) c d → d ≡ e) → Asks h c e
as_asked h c e (d, t, asked, leads) only =
    let same : d ≡ e = only d asked in
    (subst (IsAsked reader (state_of h) c) same asked, (t, subst (λ (z : Event). Leads reader (state_of h) z t) same leads))

holds_within : (h : Standing) → MayStand h → HoldsWithin (state_of h)
holds_within h may = well_holds_within reader (state_of h) accepted_are_within may.held.well

-- ---- events that are made of something

-- what is so of each of these is so of the one that is asked for
pub of_kind : {A : Type 0} (g : A → Event) (P : Event → Type 0) → ((x : A) → P (g x)) → (o : Option A) (e : Event) → Some e ≡ option_map g o
    → P e
of_kind g P kind o e is = let x = map_some g o e (sym is) in subst P x.2 (kind x.0)

-- it is built, and of this case
abbrev pub IsBuiltOf : Option ℕ → Event → Type 0
IsBuiltOf m e = (is_built e ≡ true) × (case_of e ≡ m)

-- ---- a launch

module _ (h : Standing) (may : MayStand h) (name : List ℕ) (gs : List Given) where
  pub launch_breaks : (next : ℕ) → next ≡ h.next → (found : Option Refusal) → BreaksNext h.known next (commands.Launch name gs) found
      → BreaksNow h (commands.Launch name gs) found
  launch_breaks next same_next found breaks = breaks h.forest (state_of h) may.held (next_of h next same_next)

  pub launch_asked : (next : ℕ) → next ≡ h.next → (e : Event) → LaunchAsks h.known next name gs e → IsAsked reader (state_of h) (commands.Launch name gs) e
  launch_asked next same_next e asks = asks h.forest (state_of h) may.held (next_of h next same_next)

  module _ (e : Event) (makes : Makes h (commands.Launch name gs) (Ok e)) where
    pub launch_leads : LeadsOn h e
    unfolding IsAsked
    launch_leads =
        (as_asked h (commands.Launch name gs) e (cases.launch_has_event reader (state_of h) (holds_within h may) name gs makes.0)
        (λ d asked. some_same d e (asked ∙ sym makes.1))).1

    abbrev launch_of : Net → Event
    launch_of net = events.Launch (state_of h).next name (launch_values net.vars gs)

    launch_kind : IsBuiltOf (Some (state_of h).next) e
    unfolding IsAsked
    launch_kind = of_kind launch_of (IsBuiltOf (Some (state_of h).next)) (λ net. (refl, refl)) (top_called (state_of h) name) e makes.1

    pub launch_built : is_built e ≡ true
    launch_built = launch_kind.0

    pub launch_numbered : (k : ℕ) → IsSpecNumbered h.known name k → IsNumbered h e k
    unfolding IsAsked
    launch_numbered k is = of_kind launch_of (λ (z : Event). IsNumbered h z k) (λ net. is) (top_called (state_of h) name) e makes.1

    pub launch_case : (next : ℕ) → next ≡ h.next → case_of e ≡ Some next
    launch_case next same_next = launch_kind.1 ∙ ap (λ n. Some n) (next_of h next same_next)

-- ---- an addition

module _ (h : Standing) (may : MayStand h) (who : List ℕ) (i : Ident) (t : List ℕ) (value : Option Value) where
  module _ (e : Event) (makes : Makes h (commands.Add who i t value) (Ok e)) where
    pub add_leads : LeadsOn h e
    unfolding IsAsked
    add_leads =
        (as_asked h (commands.Add who i t value) e
        (tasks.add_has_event reader (state_of h) may.held.well (holds_within h may) who i t value makes.0)
        (λ d asked. some_same d e (asked ∙ sym makes.1))).1

    abbrev add_of : Value → Event
    add_of v = events.Add i t v (state_of h).next

    abbrev element : Option Value
    element = option_and_then (λ (x : TaskAt). element_value x.task value) (task_at (state_of h) i t)

    add_kind : IsBuiltOf (Some (case_number i)) e
    unfolding IsAsked
    add_kind = of_kind add_of (IsBuiltOf (Some (case_number i))) (λ v. (refl, refl)) element e makes.1

    pub add_built : is_built e ≡ true
    add_built = add_kind.0

    pub add_numbered : (k : ℕ) → IsTaskNumbered (state_of h) i t k → IsNumbered h e k
    unfolding IsAsked
    add_numbered k is = of_kind add_of (λ (z : Event). IsNumbered h z k) (λ v. is) element e makes.1

    pub add_case : (n : ℕ) → n ≡ case_number i → case_of e ≡ Some n
    add_case n same = add_kind.1 ∙ ap (λ k. Some k) (sym same)

-- ---- events whose fields the command has

module _ (h : Standing) where
  pub start_asks : MayStand h → (who : List ℕ) (j : Ident) → BreaksNow h (commands.Start who j) None
      → Asks h (commands.Start who j) (events.Start j who)
  unfolding IsAsked
  start_asks may who j unbroken =
      as_asked h (commands.Start who j) (events.Start j who) (items.start_has_event reader (state_of h) may.held.well who j unbroken)
      (λ d asked. asked)

  module _ (j : Ident) (n : ℕ) (same : n ≡ case_number j) where
    pub cancel_asks : BreaksNow h (commands.Cancel j) None → Asks h (commands.Cancel j) (events.Cancel n)
    unfolding IsAsked
    cancel_asks unbroken =
        as_asked h (commands.Cancel j) (events.Cancel n) (cases.cancel_has_event reader (state_of h) j unbroken)
        (λ d asked. asked ∙ ap events.Cancel (sym same))

    pub advance_asks : BreaksNow h (commands.Advance j) None → Asks h (commands.Advance j) (events.Advance n)
    unfolding IsAsked
    advance_asks unbroken =
        as_asked h (commands.Advance j) (events.Advance n) (cases.advance_has_event reader (state_of h) j unbroken)
        (λ d asked. asked ∙ ap events.Advance (sym same))

  module _ (j : Ident) where
    pub suspend_asks : BreaksNow h (commands.Suspend j) None → Asks h (commands.Suspend j) (events.Suspend j)
    unfolding IsAsked
    suspend_asks unbroken =
        as_asked h (commands.Suspend j) (events.Suspend j) (cases.suspend_has_event reader (state_of h) j unbroken) (λ d asked. asked)

    pub continue_asks : BreaksNow h (commands.Continue j) None → Asks h (commands.Continue j) (events.Continue j)
    unfolding IsAsked
    continue_asks unbroken =
        as_asked h (commands.Continue j) (events.Continue j) (cases.continue_has_event reader (state_of h) j unbroken) (λ d asked. asked)

  module _ (name : List ℕ) (roles : List (List ℕ)) where
    pub person_asks : are_roles roles ≡ true → Asks h (commands.Person name roles) (events.Person name roles)
    unfolding IsAsked
    person_asks right =
        as_asked h (commands.Person name roles) (events.Person name roles)
        (cases.person_has_event reader (state_of h) name roles right) (λ d asked. asked)

    -- a person breaks no rule
    pub person_unbroken : BreaksNow h (commands.Person name roles) None
    unfolding checks
    person_unbroken = refl
