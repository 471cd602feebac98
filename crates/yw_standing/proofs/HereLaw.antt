-- What is found at an identity.
use Rattle.std.proofs.Common.{ap, subst, sym, ◌∙◌}
use Rattle.std.specs.Borrow.{Bor}
use Rattle.std.specs.Prelude.{MatchOption, None, Option, Some, false, is_some, option_and_then, option_map, true, ◌≡◌}
use Rattle.yw_base.specs.Identity.{is_identity, parent}
use Rattle.yw_standing.specs.Here.{IsNetKnown}
use Rattle.yw_known.proofs.Standing.{net_is_here, numbered}
use Rattle.yw_library.specs.Held.{IsHeld}
use Rattle.yw_known.specs.Known.{IsKnownNet, net_numbered}
use Rattle.yw_library.specs.Holdings.{AreNamed, Holdings}
use Rattle.yw_known.specs.declared.known.KnownNet.{KnownNet}
use Rattle.yw_state.proofs.Tests.{by_option, never}
use Rattle.yw_state.specs.Identity.{Ident}
use Rattle.yw_state.specs.Joins.{at_output, marked}
use Rattle.yw_state.specs.Options.{is_some_and}
use Rattle.yw_state.specs.State.{ItemAt, ItemPart, NetAt, NetPart, State, TaskAt, is_item, item_at, item_part, net_at, net_of, net_part, task_in}
use Rattle.yw_spec.specs.declared.spec.Net.{Net}
use Rattle.yw_tree.specs.Places.{net_at as net_found}
use Rattle.yw_tree.specs.declared.Forest.{Forest}
use Rattle.yw_tree.specs.declared.NetState.{NetState, out-NetState}

module _ (s : State) where
  pub no_net : (i : Ident) → net_part s i ≡ None → net_at s i ≡ None
  no_net i none = ap (option_and_then (λ (n : NetPart). option_map (λ (net : Net). let w : NetAt = record { part = n; net = net } in w) (net_of s n))) none

  pub not_at_output : (i : Ident) → net_part s i ≡ None → at_output s i ≡ false
  not_at_output i none = ap (λ o. is_some_and o (λ (n : NetAt). marked s i n.net.output)) (no_net i none)

  abbrev in_net : ItemPart → NetAt → Option ItemAt
  in_net x n = option_map (λ (t : TaskAt). let y : ItemAt = record { part = x; of_task = t } in y) (task_in n x.task)

  pub no_item : (j : Ident) → is_item s j ≡ false → item_at s j ≡ None
  no_item j none =
      by_option (item_part s j)
      (λ e. ap (option_and_then (λ (x : ItemPart). option_and_then (in_net x) (net_at s (parent j)))) e)
      (λ x e. never (sym none ∙ ap is_some e))

  -- nor does an item stand where no net is above
  pub no_item_in : (j : Ident) → net_part s (parent j) ≡ None → item_at s j ≡ None
  no_item_in j none =
      by_option (item_part s j)
      (λ e. ap (option_and_then (λ (x : ItemPart). option_and_then (in_net x) (net_at s (parent j)))) e)
      (λ x e.
      ap (option_and_then (λ (y : ItemPart). option_and_then (in_net y) (net_at s (parent j)))) e
      ∙ ap (option_and_then (in_net x)) (no_net (parent j) none))

-- ---- the net, by what is known

module _ (known : Holdings) (f : Forest) (s : State) (h : IsHeld known f s) where
  pub known_there : (i : Ident) → is_identity i ≡ true → AreNamed known → (state : Bor NetState) → net_found f i ≡ Some state.now → (o : Option KnownNet)
      → MatchOption o (net_numbered known (out-NetState state.now).spec (out-NetState state.now).net ≡ None)
      (IsKnownNet known (out-NetState state.now).spec (out-NetState state.now).net)
      → MatchOption o (net_part s i ≡ None) (IsNetKnown known f s i)
  known_there i identity named state found None none = absurd (numbered known f s h i identity state.now found named none)
  known_there i identity named state found (Some w) is =
      record { state = state; here = net_is_here known f s h i identity (record { state = state; net = w.net; up = w.up; spec = w.spec }) found is }

  pub known_above : (j i : Ident) → i ≡ parent j → (o : Option KnownNet) → MatchOption o (net_part s i ≡ None) (IsNetKnown known f s i)
      → MatchOption o (item_at s j ≡ None) (IsNetKnown known f s (parent j))
  known_above j i same None none = no_item_in s j (ap (net_part s) (sym same) ∙ none)
  known_above j i same (Some w) is = subst (λ z. IsNetKnown known f s z w) same is
