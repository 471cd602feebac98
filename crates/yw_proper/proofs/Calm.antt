-- Events by which neither a net nor an item comes, and no token: each net and each item that stands then stood before.
use Rattle.std.specs.Prelude.{◌≡◌, ℕ, Bool, true, false, not, List, ◌||◌, refl}
use Rattle.std.proofs.Common.{sym}
use Rattle.yw_base.specs.Identity.{under, child}
use Rattle.yw_proper.proofs.Lighter.{Leaves, item_itself, item_mapped, leaves-change, leaves-if, leaves-put, leaves-retain, leaves-same, leaves-some, leaves-then, net_gone, net_itself}
use Rattle.yw_state.proofs.Tests.{never}
use Rattle.yw_state.specs.After.{add_rule, begin_run, change, complete, completed, end_case, end_net, make_due, make_select_due, pass, with_item, with_run, with_sites}
use Rattle.yw_state.specs.ByName.{made_of_given}
use Rattle.yw_state.specs.Exlets.{case_above, continue_at, cut_back, end_compensation, end_if_over, going_on, is_over, primitive, restarted, suspend}
use Rattle.yw_state.specs.Identity.{Ident, case_ident, same, strictly_under}
use Rattle.yw_state.specs.Judged.{task_place}
use Rattle.yw_state.specs.Map.{insert, remove, retain}
use Rattle.yw_state.specs.Nets.{is_atomic}
use Rattle.yw_state.specs.Options.{is_some_and}
use Rattle.yw_state.specs.State.{State, ItemPart, RunPart, NetAt, ItemAt, TaskAt, bare, bare_but, item_at, net_at, run_part, without_net}
use Rattle.yw_state.specs.Texts.{Said, nothing, a_spec, a_test}
use Rattle.yw_state.specs.Values.{Row}
use Rattle.yw_state.specs.Words.{is_completed}
use Rattle.yw_state.specs.declared.part.Way.{Way}
use Rattle.yw_state.specs.declared.tree.Conclusion.{Conclusion}
use Rattle.yw_state.specs.declared.tree.Primitive.{Primitive}
use Rattle.yw_state.specs.declared.tree.Primitive.TheVariants.{SuspendItem, ContinueItem, RestartItem, CompleteItem, RemoveItem, SuspendCase, ContinueCase, RemoveCase, Compensate, Unknown}
use Rattle.yw_state.specs.declared.tree.TreeKind.{TreeKind}
use Rattle.yw_state.specs.declared.tree.TreeKind.TheVariants.{Post, Select}
use Rattle.yw_state.specs.declared.tree.TreePlace.{TreePlace}

-- what stands is the same
pub person-leaves : (s : State) (name : List ℕ) (roles : List (List ℕ)) → Leaves s (record s { persons = insert s.persons name roles })
person-leaves s name roles = let all = leaves-same s in record { nets = all.nets; items = all.items; specs = refl }

pub rule-leaves : (s : State) (p : TreePlace) (at : ℕ) (side : Bool) (when : List ℕ) (conclusion : Conclusion) (said : Said) → Leaves s (add_rule s p at side when conclusion said)
rule-leaves s p at side when conclusion (a_test test) = let all = leaves-same s in record { nets = all.nets; items = all.items; specs = refl }
rule-leaves s p at side when conclusion (a_spec spec) = leaves-same s
rule-leaves s p at side when conclusion nothing = leaves-same s

-- ---- marks and stages

pub due-leaves : (s : State) (j : Ident) (p : TreePlace) → Leaves s (make_due s j p)
due-leaves s j p = leaves-change s j _ (λ x. net_itself x.net) (λ x. item_itself x.item)

pub pass-leaves : (s : State) (j : Ident) (kind : TreeKind) → Leaves s (pass s j kind)
pass-leaves s j kind = leaves-change s j _ (λ x. net_itself x.net) (λ x. item_itself x.item)

pub suspend-leaves : (s : State) (j : Ident) → Leaves s (suspend s j)
suspend-leaves s j = leaves-change s j _ (λ x. net_itself x.net) (λ x. item_itself x.item)

pub continue-leaves : (s : State) (j : Ident) → Leaves s (continue_at s j)
continue-leaves s j = leaves-change s j _ (λ x. net_itself x.net) (λ x. item_itself x.item)

pub run-leaves : (s : State) (r : Ident) (f : RunPart → RunPart) → Leaves s (change s r (with_run f))
run-leaves s r f = leaves-change s r (with_run f) (λ x. net_itself x.net) (λ x. item_itself x.item)

pub stage-leaves : (s : State) (j : Ident) (g : ItemPart → ItemPart) → ((x : ItemPart) → (g x).task ≡ x.task) → Leaves s (change s j (with_item g))
stage-leaves s j g task = leaves-change s j (with_item g) (λ x. net_itself x.net) (λ x. item_mapped g task x.item)

select-leaves : (s : State) (j : Ident) (x : TaskAt) → Leaves s (make_select_due s j x)
select-leaves s j x = leaves-if s (is_atomic x.task) (make_due s j (task_place x Select)) s (due-leaves s j (task_place x Select)) (leaves-same s)

pub complete-leaves : (s : State) (j : Ident) (out : Row) (x : ItemAt) → Leaves s (complete s j out x)
complete-leaves s j out x =
    leaves-then s (change s j (with_item (completed out))) (complete s j out x) (stage-leaves s j (completed out) (λ y. refl)) (due-leaves (change s j (with_item (completed out))) j (task_place x.of_task Post))

-- ---- what stands below goes

module _ (s : State) (j : Ident) where
  abbrev above : State
  above = with_sites s (retain s.sites (λ k. not (strictly_under k j)))

  bare-leaves : Leaves s (with_sites s (bare s.sites j))
  bare-leaves = leaves-then s above (change above j without_net) (leaves-retain s (λ k. not (strictly_under k j))) (leaves-change above j without_net (λ x. net_gone x.net) (λ x. item_itself x.item))

  pub end_net-leaves : (made : NetAt → ItemAt → Row) (x : ItemAt) → Leaves s (end_net s j made x)
  end_net-leaves made x =
      leaves-some s (net_at s j) s _ (leaves-same s) (λ n.
      leaves-then s (with_sites s (bare s.sites j)) (complete (with_sites s (bare s.sites j)) j (made n x) x) bare-leaves (complete-leaves (with_sites s (bare s.sites j)) j (made n x) x))

  module _ (r : Ident) where
    abbrev but_run : State
    but_run = with_sites s (retain s.sites (λ k. not (strictly_under k j) || same k r))

    abbrev without : State
    without = with_sites s (bare_but s.sites j r)

    cut_back-leaves : (f : ItemPart → ItemPart) → ((x : ItemPart) → (f x).task ≡ x.task) → Leaves s (cut_back s r j f)
    cut_back-leaves f task =
        leaves-then s but_run (cut_back s r j f) (leaves-retain s (λ k. not (strictly_under k j) || same k r))
        (leaves-then but_run without (cut_back s r j f) (leaves-change but_run j without_net (λ x. net_gone x.net) (λ x. item_itself x.item))
        (leaves-change without j _ (λ x. net_itself x.net) (λ x. item_mapped f task x.item)))

pub case-leaves : (s : State) (n : ℕ) (way : Way) → Leaves s (end_case s n way)
case-leaves s n way = let all = leaves-retain s (λ k. not (under k (case_ident n))) in record { nets = all.nets; items = all.items; specs = refl }

-- ---- runs begin, go on and go

pub begin-leaves : (s : State) (j : Ident) (kind : TreeKind) (node n : ℕ) → Leaves s (begin_run s j kind node n)
begin-leaves s j kind node n = let all = leaves-put s (child j n) _ refl refl in record { nets = all.nets; items = all.items; specs = refl }

pub over-leaves : (s : State) (r : Ident) → Leaves s (end_if_over s r)
over-leaves s r = leaves-if s (is_some_and (run_part s r) is_over) (with_sites s (remove s.sites r)) s (leaves-retain s _) (leaves-same s)

pub compensation-leaves : (s : State) (r : Ident) → Leaves s (end_compensation s r)
compensation-leaves s r =
    leaves-then s (with_sites s (bare s.sites r)) (end_compensation s r) (bare-leaves s r)
    (leaves-then (with_sites s (bare s.sites r)) (change (with_sites s (bare s.sites r)) r (with_run going_on)) (end_compensation s r) (run-leaves (with_sites s (bare s.sites r)) r going_on)
    (over-leaves (change (with_sites s (bare s.sites r)) r (with_run going_on)) r))

-- ---- primitives but that by which a compensation begins

abbrev pub is_compensation : Primitive → Bool
is_compensation (Compensate name) = true
is_compensation p = false

pub primitive-leaves : (s : State) (r j : Ident) (p : Primitive) → is_compensation p ≡ false → Leaves s (primitive s r j p)
primitive-leaves s r j SuspendItem other = suspend-leaves s j
primitive-leaves s r j ContinueItem other = continue-leaves s j
primitive-leaves s r j RestartItem other = leaves-some s (item_at s j) s _ (leaves-same s) (λ x.
    leaves-then s (cut_back s r j restarted) (make_select_due (cut_back s r j restarted) j x.of_task) (cut_back-leaves s j r restarted (λ y. refl)) (select-leaves (cut_back s r j restarted) j x.of_task))
primitive-leaves s r j CompleteItem other = leaves-some s (item_at s j) s _ (leaves-same s) (λ x.
    leaves-if s (is_completed x.part.stage) s (cut_back s r j (completed (made_of_given x))) (leaves-same s) (cut_back-leaves s j r (completed (made_of_given x)) (λ y. refl)))
primitive-leaves s r j RemoveItem other = leaves-retain s (λ k. not (under k j))
primitive-leaves s r j SuspendCase other = suspend-leaves s (case_above r)
primitive-leaves s r j ContinueCase other = continue-leaves s (case_above r)
primitive-leaves s r j RemoveCase other = case-leaves s _ _
primitive-leaves s r j (Compensate name) other = never (sym other)
primitive-leaves s r j (Unknown text) other = leaves-same s
