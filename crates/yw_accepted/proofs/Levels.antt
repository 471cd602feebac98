-- In an accepted specification no net is too far down: nets by their numbers lead where nets by their names do.
use Rattle.std.specs.Prelude.{◌≡◌, ◌<◌, ℕ, zero, suc, List, Option, Some, None, Contains, option_map, slice_get}
use Rattle.std.specs.List.{All}
use Rattle.std.proofs.Common.{sym, ◌∙◌, ap, inl, inr}
use Rattle.std.proofs.lemmas.Bool.{cases_lt}
use Rattle.std.proofs.lemmas.Option.{get_or_from_slice_get, slice_get_within}
use Rattle.yw_reach.specs.Walks.{IsBehindAlong, WalkAlong}
use Rattle.yw_spec.specs.declared.spec.Net.{Net}
use Rattle.yw_spec.specs.declared.spec.Spec.{Spec}
use Rattle.yw_spec.specs.declared.task.Kind.{Kind}
use Rattle.yw_spec.specs.declared.task.Task.{Task}
use Rattle.yw_read.specs.declared.raw.RawKind.{RawKind}
use Rattle.yw_read.specs.declared.raw.RawKind.TheVariants as raw_kinds
use Rattle.yw_read.specs.declared.raw.RawNet.{RawNet}
use Rattle.yw_read.specs.declared.raw.RawSpec.{RawSpec}
use Rattle.yw_accept.specs.Built.{IsKind, IsNet, IsNetCalled, IsSpec, IsTask}
use Rattle.yw_accept.specs.Faults.{of_net}
use Rattle.yw_accept.specs.Graph.{Holds, LevelsFit, most_levels, names_of_kind}
use Rattle.yw_accept.specs.Order.{Demand}
use Rattle.yw_accept.specs.Verdict.{IsVerdict}
use Rattle.yw_accept.proofs.FactsLemmas.{order_all}
use Rattle.yw_state.proofs.MapLemmas.{nowhere, some_same}
use Rattle.yw_state.specs.Nets.{child_net}
use Rattle.yw_accepted.proofs.Found.{all_at, zip_at}
use Rattle.yw_sound.specs.Sound.{HasChild}

abbrev IsNotDeep : RawSpec → RawNet → Type 0
IsNotDeep raw net = IsBehindAlong (Holds raw) raw.top net.name most_levels → ⊥

levels_found : (raw : RawSpec) → LevelsFit raw None → All (IsNotDeep raw) raw.net
unfolding LevelsFit
levels_found raw h = order_all (λ (net : RawNet). Demand (IsNotDeep raw net) (of_net 7 net.name)) raw.net h

levels_fit : (raw : RawSpec) → IsVerdict raw None → All (IsNotDeep raw) raw.net
unfolding IsVerdict
levels_fit raw h = levels_found raw h.1.1.1.1.1.1.0

contains : {A : Type 0} (xs : List A) (k : ℕ) (x : A) → slice_get xs k ≡ Some x → Contains xs x
contains xs k x e = (k, slice_get_within xs k x e, get_or_from_slice_get xs k x x e)

module _ (raw : RawSpec) (verdict : IsVerdict raw None) (spec : Spec) (is_spec : IsSpec raw spec) where
  -- the child net of a task that is built is the one that the task names
  names_child : (t : Task) (c : ℕ) (m : List ℕ) → IsNetCalled raw m c → (kind : RawKind) (net : Option (List ℕ)) (built : Kind) → IsKind raw kind net built → child_net (record t { kind = built }) ≡ Some c → names_of_kind kind net ≡ Some m
  names_child t c m called raw_kinds.Atomic net built is e = nowhere (ap (λ k. child_net (record t { kind = k })) (sym is) ∙ e)
  names_child t c m called raw_kinds.Empty net built is e = nowhere (ap (λ k. child_net (record t { kind = k })) (sym is) ∙ e)
  names_child t c m called raw_kinds.Sub net built (name, net_is, k, name_called, is) e =
      let one : k ≡ c = some_same k c (ap (λ b. child_net (record t { kind = b })) (sym is) ∙ e) in
      net_is ∙ sym name_called ∙ ap (λ q. option_map (λ (n : RawNet). n.name) (slice_get raw.net q)) one ∙ called

  pub one_step : (k c : ℕ) → HasChild spec k c → (n m : List ℕ) → IsNetCalled raw n k → IsNetCalled raw m c → Holds raw n m
  one_step k c (net, at, i, t, task_at, child_is) n m outer inner =
      let (rn, rat, built) = zip_at (IsNet raw) raw.net spec.nets is_spec.nets k net at in
      let (rt, rtat, is) = zip_at (IsTask raw rn) rn.task net.tasks built.tasks i t task_at in
      let name_is : rn.name ≡ n = some_same rn.name n (sym (ap (option_map (λ (x : RawNet). x.name)) rat) ∙ outer) in
      (rn, contains raw.net k rn rat, name_is, rt, contains rn.task i rt rtat, names_child t c m inner rt.kind rt.net t.kind is.kind child_is)

  pub named : (k : ℕ) (net : Net) → slice_get spec.nets k ≡ Some net → (n : List ℕ) × IsNetCalled raw n k
  named k net at = let (rn, rat, built) = zip_at (IsNet raw) raw.net spec.nets is_spec.nets k net at in (rn.name, ap (option_map (λ (x : RawNet). x.name)) rat)

  walks : (n k : ℕ) → WalkAlong (HasChild spec) spec.top k n → (m : List ℕ) → IsNetCalled raw m k → WalkAlong (Holds raw) raw.top m n
  walks zero k e m called = some_same raw.top m (sym is_spec.top ∙ ap (λ q. option_map (λ (x : RawNet). x.name) (slice_get raw.net q)) e ∙ called)
  walks (suc n) k (c, walk, child) m called =
      let (name, name_called) = named c child.0 child.1 in (name, walks n c walk name name_called, one_step c k child name m name_called called)

  pub level_fits : (net : Net) (k n : ℕ) → slice_get spec.nets k ≡ Some net → WalkAlong (HasChild spec) spec.top k n → n < most_levels
  level_fits net k n at walk =
      elim (cases_lt n most_levels) [
        | inl lt ↦ lt
        | inr le ↦
            let (rn, rat, built) = zip_at (IsNet raw) raw.net spec.nets is_spec.nets k net at in
            absurd (all_at (IsNotDeep raw) raw.net (levels_fit raw verdict) k rn rat (n, le, walks n k walk rn.name (ap (option_map (λ (x : RawNet). x.name)) rat)))
      ]
