-- In an accepted specification no net uses itself: neither as the text names nets, nor as the specification numbers them.
use Rattle.std.specs.Prelude.{◌≡◌, ℕ, zero, suc, List, Option, Some, None, refl}
use Rattle.std.specs.List.{All}
use Rattle.std.proofs.Common.{sym, ◌∙◌, ap, subst}
use Rattle.std.proofs.lemmas.List.Elements.{All-contains}
use Rattle.yw_reach.specs.Walks.{CycleAlong, WalkAlong}
use Rattle.yw_reach.proofs.Walks.{cycle_closes}
use Rattle.yw_spec.specs.declared.spec.Spec.{Spec}
use Rattle.yw_spec.specs.declared.task.Kind.{Kind}
use Rattle.yw_spec.specs.declared.task.Task.{Task}
use Rattle.yw_read.specs.declared.raw.RawKind.{RawKind}
use Rattle.yw_read.specs.declared.raw.RawKind.TheVariants as raw_kinds
use Rattle.yw_read.specs.declared.raw.RawNet.{RawNet}
use Rattle.yw_read.specs.declared.raw.RawSpec.{RawSpec}
use Rattle.yw_read.specs.declared.raw.RawTask.{RawTask}
use Rattle.yw_accept.specs.Built.{IsKind, IsNet, IsNetCalled, IsSpec, IsTask}
use Rattle.yw_accept.specs.Graph.{ChildFits, ChildrenFit, Holds}
use Rattle.yw_accept.specs.Order.{InOrder}
use Rattle.yw_accept.specs.Verdict.{IsVerdict}
use Rattle.yw_accept.proofs.FactsLemmas.{order_all}
use Rattle.yw_state.proofs.MapLemmas.{nowhere, some_same}
use Rattle.yw_state.specs.Nets.{child_net}
use Rattle.yw_accepted.proofs.Found.{zip_at}
use Rattle.yw_accepted.proofs.Levels.{named, one_step}
use Rattle.yw_sound.specs.Sound.{HasChild}

-- where no task leads back, nothing does
none_back : (raw : RawSpec) → ChildrenFit raw None → CycleAlong (Holds raw) → ⊥
unfolding ChildrenFit
none_back raw h cycle =
    let a : List ℕ = cycle.0 in
    let held = cycle.2.2 in
    let net : RawNet = held.0 in
    let task : RawTask = held.3 in
    let NetFits : RawNet → Type 0 = λ x. InOrder (ChildFits raw x) x.task None in
    let fits : NetFits net = All-contains NetFits raw.net net (order_all (λ (x : RawNet). InOrder (ChildFits raw x) x.task) raw.net h.0) held.1 in
    let P : List ℕ → Type 0 = λ x. WalkAlong (Holds raw) a x cycle.1 in
    (All-contains (λ t. ChildFits raw net t None) net.task task (order_all (ChildFits raw net) net.task fits) held.4).1
    (a, held.5, (cycle.1, subst P (sym held.2) cycle.2.1))

children_fit : (raw : RawSpec) → IsVerdict raw None → ChildrenFit raw None
unfolding IsVerdict
children_fit raw h = h.1.1.1.1.1.0

module _ (raw : RawSpec) (verdict : IsVerdict raw None) (spec : Spec) (is_spec : IsSpec raw spec) where
  -- the child net of a task that is built has a name
  child_called : (t : Task) (c : ℕ) (kind : RawKind) (net : Option (List ℕ)) (built : Kind) → IsKind raw kind net built → child_net (record t { kind = built }) ≡ Some c → (m : List ℕ) × IsNetCalled raw m c
  child_called t c raw_kinds.Atomic net built is e = nowhere (ap (λ k. child_net (record t { kind = k })) (sym is) ∙ e)
  child_called t c raw_kinds.Empty net built is e = nowhere (ap (λ k. child_net (record t { kind = k })) (sym is) ∙ e)
  child_called t c raw_kinds.Sub net built (name, net_is, k, name_called, is) e =
      let one : k ≡ c = some_same k c (ap (λ b. child_net (record t { kind = b })) (sym is) ∙ e) in
      (name, subst (λ q. IsNetCalled raw name q) one name_called)

  inner_called : (c k : ℕ) → HasChild spec c k → (m : List ℕ) × IsNetCalled raw m k
  inner_called c k (net, at, i, t, task_at, child_is) =
      let (rn, rat, built) = zip_at (IsNet raw) raw.net spec.nets is_spec.nets c net at in
      let (rt, rtat, is) = zip_at (IsTask raw rn) rn.task net.tasks built.tasks i t task_at in
      child_called t k rt.kind rt.net t.kind is.kind child_is

  walk_named : (n k c : ℕ) → WalkAlong (HasChild spec) k c n → (y : List ℕ) → IsNetCalled raw y c → (x : List ℕ) × IsNetCalled raw x k × WalkAlong (Holds raw) x y n
  walk_named zero k c e y called = (y, subst (λ q. IsNetCalled raw y q) (sym e) called, refl)
  walk_named (suc n) k c (d, walk, child) y called =
      let (name, name_called) = named raw verdict spec is_spec d child.0 child.1 in
      let r = walk_named n k d walk name name_called in
      (r.0, r.1, (name, r.2, one_step raw verdict spec is_spec d c child name y name_called called))

  pub no_net_uses_itself : CycleAlong (HasChild spec) → ⊥
  no_net_uses_itself cycle =
      let k : ℕ = cycle.0 in
      let n : ℕ = cycle.1 in
      let c : ℕ = cycle.2.0 in
      let child : HasChild spec c k = cycle.2.2 in
      let (m, m_called) = inner_called c k child in
      let (y, y_called) = named raw verdict spec is_spec c child.0 child.1 in
      let r = walk_named n k c cycle.2.1 y y_called in
      let same : r.0 ≡ m = some_same r.0 m (sym r.1 ∙ m_called) in
      none_back raw (children_fit raw verdict)
      (cycle_closes (Holds raw) y m (one_step raw verdict spec is_spec c k child y m y_called m_called) (n, subst (λ x. WalkAlong (Holds raw) x y n) same r.2))
