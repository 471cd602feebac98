-- The event that a command asks for is allowed, where the command breaks no rule.
use Rattle.std.proofs.Common.{List, Option, Some, ap, refl, subst, sym, ℕ, ◌∙◌, ◌≡◌}
use Rattle.std.specs.Prelude.{option_and_then, option_map}
use Rattle.yw_asked.proofs.CasesAsked.{advance_has_event, cancel_has_event, launch_has_event}
use Rattle.yw_asked.proofs.ItemsAsked.{complete_has_event, start_has_event}
use Rattle.yw_asked.proofs.TasksAsked.{add_has_event}
use Rattle.yw_asked.specs.Asked.{HasEvent}
use Rattle.yw_base.specs.declared.value.Value.{Value}
use Rattle.yw_breaks.specs.Events.{IsAllowed}
use Rattle.yw_texts.specs.Texts.{reader}
use Rattle.yw_spec.specs.declared.spec.Net.{Net}
use Rattle.yw_state.proofs.Tests.{map_some, some_same}
use Rattle.yw_state.specs.Allowed.{Allowed}
use Rattle.yw_state.specs.Given.{element_value, launch_values, made_values}
use Rattle.yw_state.specs.Identity.{Ident}
use Rattle.yw_state.specs.Legal.{IsAsked}
use Rattle.yw_state.specs.State.{ItemAt, State, TaskAt, item_at, task_at, top_called}
use Rattle.yw_state.specs.Texts.{EventText, Said, TextSays, no_text, nothing, text_of}
use Rattle.yw_state.specs.Well.{IsWell}
use Rattle.yw_state.specs.declared.command.Command.{Command}
use Rattle.yw_state.specs.declared.command.Command.TheVariants as commands
use Rattle.yw_state.specs.declared.command.Given.{Given}
use Rattle.yw_state.specs.declared.event.Event.{Event}
use Rattle.yw_state.specs.declared.event.Event.TheVariants as events
use Rattle.yw_within.specs.Within.{HoldsWithin}

-- of an event without a text, which is the only one that is asked for
allowed_by : (s : State) (c : Command) (e : Event) → HasEvent reader s c → ((d : Event) → IsAsked reader s c d → d ≡ e) → text_of e ≡ no_text → Allowed s e nothing
allowed_by s c e (d, t, asked, leads) only none =
    let same : d ≡ e = only d asked in
    let says : leads.said ≡ nothing = subst (λ (x : EventText). TextSays reader s x leads.said) (ap text_of same ∙ none) leads.says in
    subst (λ (x : Said). Allowed s e x) says (subst (λ (z : Event). Allowed s z leads.said) same leads.allowed)

-- none of these events has a text
without_text : {A : Type 0} (g : A → Event) → ((x : A) → text_of (g x) ≡ no_text) → (o : Option A) (e : Event) → Some e ≡ option_map g o → text_of e ≡ no_text
without_text g none o e is = let m = map_some g o e (sym is) in sym (ap text_of m.2) ∙ none m.0

module _ (s : State) (e : Event) where
  pub start_allowed : IsWell reader s → (who : List ℕ) (j : Ident) → IsAllowed s (commands.Start who j) e
  unfolding IsAsked
  start_allowed well who j unbroken asked =
      allowed_by s (commands.Start who j) e (start_has_event reader s well who j unbroken) (λ d is. is ∙ sym asked) (ap text_of asked)

  pub cancel_allowed : (j : Ident) → IsAllowed s (commands.Cancel j) e
  unfolding IsAsked
  cancel_allowed j unbroken asked = allowed_by s (commands.Cancel j) e (cancel_has_event reader s j unbroken) (λ d is. is ∙ sym asked) (ap text_of asked)

  pub advance_allowed : (j : Ident) → IsAllowed s (commands.Advance j) e
  unfolding IsAsked
  advance_allowed j unbroken asked = allowed_by s (commands.Advance j) e (advance_has_event reader s j unbroken) (λ d is. is ∙ sym asked) (ap text_of asked)

  pub launch_allowed : HoldsWithin s → (name : List ℕ) (gs : List Given) → IsAllowed s (commands.Launch name gs) e
  unfolding IsAsked
  launch_allowed holds name gs unbroken asked =
      allowed_by s (commands.Launch name gs) e (launch_has_event reader s holds name gs unbroken) (λ d is. some_same d e (is ∙ sym asked))
      (without_text (λ (net : Net). events.Launch s.next name (launch_values net.vars gs)) (λ net. refl) (top_called s name) e asked)

  pub complete_allowed : IsWell reader s → (who : List ℕ) (j : Ident) (gs : List Given) → IsAllowed s (commands.Complete who j gs) e
  unfolding IsAsked
  complete_allowed well who j gs unbroken asked =
      allowed_by s (commands.Complete who j gs) e (complete_has_event reader s well who j gs unbroken) (λ d is. some_same d e (is ∙ sym asked))
      (without_text (events.Complete j) (λ out. refl) (option_and_then (λ (x : ItemAt). made_values x.of_task.task.outs gs) (item_at s j)) e asked)

  pub add_allowed : IsWell reader s → HoldsWithin s → (who : List ℕ) (i : Ident) (t : List ℕ) (value : Option Value) → IsAllowed s (commands.Add who i t value) e
  unfolding IsAsked
  add_allowed well holds who i t value unbroken asked =
      allowed_by s (commands.Add who i t value) e (add_has_event reader s well holds who i t value unbroken) (λ d is. some_same d e (is ∙ sym asked))
      (without_text (λ (v : Value). events.Add i t v s.next) (λ v. refl) (option_and_then (λ (x : TaskAt). element_value x.task value) (task_at s i t)) e asked)
