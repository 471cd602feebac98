-- The event that a command asks for.
use Rattle.std.proofs.Common.{List, None, Option, Some, ap, length, refl, sym, ℕ, ◌∙◌, ◌≡◌}
use Rattle.std.proofs.lemmas.Bool.{ltb-true}
use Rattle.std.specs.Prelude.{option_and_then, option_map, slice_get}
use Rattle.yw_base.specs.declared.value.Value.{Value}
use Rattle.yw_breaks.specs.Nets.{IsTaskNamed}
use Rattle.yw_known.proofs.Lists.{not_before}
use Rattle.yw_known.proofs.Standing.{kept_called}
use Rattle.yw_library.specs.Held.{IsHeld}
use Rattle.yw_known.specs.Here.{IsItemHere, IsNetHere}
use Rattle.yw_library.specs.Names.{names_of}
use Rattle.yw_known.specs.declared.here.ItemHere.{ItemHere}
use Rattle.yw_known.specs.declared.here.NetHere.{NetHere}
use Rattle.yw_library.specs.Holdings.{Holdings, IsKept}
use Rattle.yw_texts.specs.Texts.{reader}
use Rattle.yw_spec.specs.declared.spec.Net.{Net}
use Rattle.yw_spec.specs.declared.spec.Spec.{Spec}
use Rattle.yw_spec.specs.declared.task.Task.{Task}
use Rattle.yw_state.proofs.Tests.{some_same}
use Rattle.yw_state.specs.Given.{element_value, launch_values, made_values}
use Rattle.yw_state.specs.Identity.{Ident}
use Rattle.yw_base.specs.Identity.{case_number}
use Rattle.yw_state.specs.Legal.{IsAsked}
use Rattle.yw_state.specs.Nets.{top_net}
use Rattle.yw_state.specs.State.{ItemAt, State, TaskAt, task_at, top_called}
use Rattle.yw_state.specs.Values.{Row}
use Rattle.yw_state.specs.declared.command.Command.TheVariants as commands
use Rattle.yw_state.specs.declared.command.Given.{Given}
use Rattle.yw_state.specs.declared.event.Event.TheVariants as events
use Rattle.yw_task.proofs.EnterAsk.{task_stands}
use Rattle.yw_tree.specs.declared.Forest.{Forest}
use Rattle.yw_within.specs.Within.{IsWithin}

module _ (s : State) (j : Ident) where
  pub start_asks : (who : List ℕ) → IsAsked reader s (commands.Start who j) (events.Start j who)
  unfolding IsAsked
  start_asks who = refl

  pub cancel_asks : (n : ℕ) → n ≡ case_number j → IsAsked reader s (commands.Cancel j) (events.Cancel n)
  unfolding IsAsked
  cancel_asks n e = ap events.Cancel e

  pub advance_asks : (n : ℕ) → n ≡ case_number j → IsAsked reader s (commands.Advance j) (events.Advance n)
  unfolding IsAsked
  advance_asks n e = ap events.Advance e

-- a specification that is within has a top net
pub has_top : {A : Type 0} (spec : Spec) → IsWithin spec → top_net spec ≡ None → A
has_top spec within none = not_before spec.nets spec.top none (ltb-true spec.top (length spec.nets) within.top)

module _ (known : Holdings) (f : Forest) (s : State) (h : IsHeld known f s) (name : List ℕ) (spec : Spec) (number : ℕ) (kept : IsKept known name spec number) where
  its_top : (o : Option Net) → top_net spec ≡ o → top_called s name ≡ o
  its_top o e = ap (option_and_then top_net) (kept_called known f s h name spec number kept) ∙ e

  pub launch_asks : (net : Net) → top_net spec ≡ Some net → (next : ℕ) → s.next ≡ next → (gs : List Given)
      → IsAsked reader s (commands.Launch name gs) (events.Launch next name (launch_values net.vars gs))
  unfolding IsAsked
  launch_asks net e next drawn gs =
      ap (λ n. Some (events.Launch n name (launch_values net.vars gs))) (sym drawn)
      ∙ sym (ap (option_map (λ (w : Net). events.Launch s.next name (launch_values w.vars gs))) (its_top (Some net) e))

-- ---- additions

module _ (known : Holdings) (f : Forest) (s : State) (h : IsHeld known f s) (i : Ident) (value : Option Value) where
  abbrev element : TaskAt → Option Value
  element x = element_value x.task value

  module _ (x : NetHere) (here : IsNetHere known f s i x) (name : List ℕ) where
    module _ (t : ℕ) (is : IsTaskNamed x.net.now name t) (u : Task) (at : slice_get x.net.now.tasks t ≡ Some u) where
      pub element_asked : option_and_then element (task_at s i name) ≡ element_value u value
      element_asked =
          ap (λ n. option_and_then element (task_at s i n)) (sym is.named)
          ∙ ap (option_and_then element) (task_stands (names_of known) f s i x.net.now x.state.now here.stands x.spec.now here.within t is.task is.at)
          ∙ ap (λ (z : Task). element_value z value) (some_same is.task u (sym is.at ∙ at))

      pub add_asks : (v : Value) → element_value u value ≡ Some v → (next : ℕ) → s.next ≡ next → (who : List ℕ)
          → IsAsked reader s (commands.Add who i name value) (events.Add i name v next)
      unfolding IsAsked
      add_asks v e next drawn who =
          ap (λ n. Some (events.Add i name v n)) (sym drawn)
          ∙ sym (ap (option_map (λ (w : Value). events.Add i name w s.next)) (element_asked ∙ e))

-- ---- completions

abbrev makes : List Given → ItemAt → Option Row
makes gs x = made_values x.of_task.task.outs gs

module _ (known : Holdings) (f : Forest) (s : State) (j : Ident) (h : ItemHere) (here : IsItemHere known f s j h) (gs : List Given) where
  pub complete_asks : (out : Row) → made_values h.task.now.outs gs ≡ Some out → (who : List ℕ) → IsAsked reader s (commands.Complete who j gs) (events.Complete j out)
  unfolding IsAsked
  complete_asks out e who = sym (ap (λ o. option_map (events.Complete j) (option_and_then (makes gs) o)) here.at ∙ ap (option_map (events.Complete j)) e)
