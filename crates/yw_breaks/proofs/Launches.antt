-- What a launch breaks first.
use Rattle.std.proofs.Common.{List, None, Option, Some, ap, false, refl, ℕ, ◌+◌, ◌∙◌, ◌≡◌, []}
use Rattle.std.specs.Prelude.{is_some, nat_lt, not, option_and_then, option_map}
use Rattle.yw_base.specs.Identity.{number_end}
use Rattle.yw_breaks.proofs.Rows.{broken_row, idle_row, place_row, rule_row}
use Rattle.yw_breaks.specs.Launch.{launch_fault, unwanted_at}
use Rattle.yw_known.proofs.Standing.{kept_called, specs_are}
use Rattle.yw_library.specs.Held.{IsHeld}
use Rattle.yw_library.specs.Holdings.{Holdings, IsKept, state_of}
use Rattle.yw_spec.specs.declared.spec.Net.{Net}
use Rattle.yw_spec.specs.declared.spec.Spec.{Spec}
use Rattle.yw_state.proofs.Tests.{nowhere}
use Rattle.yw_state.specs.Broken.{Breaks, checks, is_spent, placeless}
use Rattle.yw_state.specs.Given.{unwanted}
use Rattle.yw_state.specs.Map.{get, has_key}
use Rattle.yw_state.specs.Nets.{top_net}
use Rattle.yw_state.specs.State.{State, top_called}
use Rattle.yw_state.specs.Texts.{Reader}
use Rattle.yw_state.specs.declared.command.Command.TheVariants as commands
use Rattle.yw_state.specs.declared.command.Given.{Given}
use Rattle.yw_state.specs.declared.loaded.Loaded.{Loaded}
use Rattle.yw_state.specs.declared.rule.Rule.TheVariants as rules
use Rattle.yw_tree.specs.declared.Forest.{Forest}

key_there : (o : Option Loaded) (spec : Spec) → option_map (λ (l : Loaded). l.spec) o ≡ Some spec → not (is_some o) ≡ false
key_there None spec e = nowhere e
key_there (Some l) spec e = refl

module _ (reader : Reader) (known : Holdings) (f : Forest) (s : State) (h : IsHeld known f s) (name : List ℕ) (gs : List Given) where
  pub launches_unknown : get (state_of known).specs name ≡ None → Breaks reader s (commands.Launch name gs) (Some (placeless rules.UnknownSpec))
  unfolding checks
  launches_unknown none =
      broken_row (not (has_key s.specs name)) (ap (λ m. not (has_key m name)) (specs_are known f s h) ∙ ap (λ o. not (is_some o)) none) rules.UnknownSpec _

  pub launches_known : (next : ℕ) → s.next ≡ next → (spec : Spec) (number : ℕ) → IsKept known name spec number → Breaks reader s (commands.Launch name gs) (launch_fault spec next gs)
  unfolding checks
  launches_known next drawn spec number kept =
      let called = kept_called known f s h name spec number kept in
      idle_row (not (has_key s.specs name)) (key_there (get s.specs name) spec called) rules.UnknownSpec _ _
      (place_row (option_and_then (λ (net : Net). unwanted net.vars gs) (top_called s name)) (unwanted_at spec gs)
      (ap (λ o. option_and_then (λ (net : Net). unwanted net.vars gs) (option_and_then top_net o)) called) rules.BadData _ _
      (rule_row (is_spent s 1) (nat_lt number_end (next + 1)) (ap (λ n. nat_lt number_end (n + 1)) drawn) rules.Numbers [] None refl))
