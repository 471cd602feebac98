-- What is well stays well when an exlet begins, where specifications are sound: the identity of what it begins at can have one number more.
use Rattle.std.specs.Prelude.{◌≡◌, ◌<◌, ◌==◌, ◌&&◌, ℕ, Bool, true, false, not, length, Option, option_and_then, if◌then◌else◌}
use Rattle.std.proofs.Common.{sym, ◌∙◌, ap, arith}
use Rattle.std.proofs.lemmas.Bool.{and_parts, eqb-true}
use Rattle.yw_base.specs.Identity.{most_numbers, parent}
use Rattle.yw_invariant.proofs.Levels as levels
use Rattle.yw_invariant.proofs.Places.{shorter}
use Rattle.yw_invariant.proofs.RaiseWell as raising
use Rattle.yw_invariant.proofs.ReadyItems as items
use Rattle.yw_invariant.proofs.Tasks as tasks
use Rattle.yw_sound.specs.Sound.{ReadsSound}
use Rattle.yw_state.proofs.Alike.{case_asks, item_asks}
use Rattle.yw_state.proofs.MapLemmas.{by_option, by_test, never}
use Rattle.yw_state.specs.Allowed.{Allowed, allows, begins_exlet, comes_next, concludes, is_next, is_raised}
use Rattle.yw_state.specs.Events.{after}
use Rattle.yw_state.specs.Identity.{Ident, is_case_ident}
use Rattle.yw_state.specs.Judged.{Question}
use Rattle.yw_state.specs.Options.{is_some_and}
use Rattle.yw_state.specs.RuleTree.{concluded}
use Rattle.yw_state.specs.State.{State, ItemAt, is_target, item_at, net_part}
use Rattle.yw_state.specs.Texts.{Reader, Said}
use Rattle.yw_state.specs.Well.{IsWell}
use Rattle.yw_state.specs.Words.{busy}
use Rattle.yw_state.specs.declared.event.Event.TheVariants as events
use Rattle.yw_state.specs.declared.tree.TreeKind.{TreeKind}

module _ (reader : Reader) (sound : ReadsSound reader) (s : State) (j : Ident) (kind : TreeKind) (node n : ℕ) (said : Said) (well : IsWell reader s) where
  abbrev concludes_at : Bool → Option ItemAt → Bool
  concludes_at of_case o =
      is_some_and (option_and_then (λ (q : Question). concluded q.rules q.row) (if of_case then case_asks s kind (net_part s j) else item_asks s kind o)) (λ k. k == node)

  -- trees are judged at cases and items alone
  is_short : concludes s j kind node ≡ true → length j < most_numbers
  is_short e =
      by_test (is_case_ident j)
      (λ case. let one = eqb-true (length j) 1 case in omega (arith, one))
      (λ no_case.
      by_option (item_at s j)
      (λ none. never (ap (concludes_at false) (sym none) ∙ ap (λ b. concludes_at b (item_at s j)) (sym no_case) ∙ e))
      (λ x item.
      let few = levels.net_is_short reader s well sound (parent j) x.of_task.within (tasks.of_net s j x item).within in
      let deep = items.deep reader s well j x item in
      let more = shorter j (omega (arith, deep)) in
      omega (arith, few, more)))

  pub raise_keeps_well : Allowed s (events.Raise j kind node n) said → IsWell reader (after s (events.Raise j kind node n) said)
  unfolding allows
  raise_keeps_well allowed =
      let begins = is_target s j && is_raised kind && not (busy s j) in
      let ends = (and_parts (begins && concludes s j kind node) (is_next s n) allowed.0).0 in
      raising.raise_keeps_well reader s j kind node n said (is_short (and_parts begins (concludes s j kind node) ends).1) well allowed

  pub except_keeps_well : Allowed s (events.Except j kind node n) said → IsWell reader (after s (events.Except j kind node n) said)
  unfolding allows
  except_keeps_well allowed =
      let begins = begins_exlet kind && comes_next s j kind in
      let ends = (and_parts (begins && concludes s j kind node) (is_next s n) allowed.0).0 in
      raising.except_keeps_well reader s j kind node n said (is_short (and_parts begins (concludes s j kind node) ends).1) well allowed
