-- What trees by numbers say of a state.
use Rattle.std.proofs.Common.{◌≡◌, ℕ, List, [], Bool, length, Some, refl, sym, ap, subst, ◌∙◌}
use Rattle.std.specs.Prelude.{◌&&◌, nat_lt, slice_get, unwrap_or}
use Rattle.yw_known.specs.Here.{IsItemHere, IsNetHere, as_net_at, as_task_at}
use Rattle.yw_known.specs.Judged.{IsTaskNumbered, TellsCaseChecks, TellsChosen, TellsItemChecks, TellsTree}
use Rattle.yw_known.specs.declared.here.ItemHere.{ItemHere}
use Rattle.yw_known.specs.declared.here.NetHere.{NetHere}
use Rattle.yw_library.specs.Held.{IsHeld}
use Rattle.yw_library.specs.Holdings.{Holdings}
use Rattle.yw_library.specs.Names.{name_in}
use Rattle.yw_spec.specs.declared.task.Task as tasks
use Rattle.yw_state.specs.Identity.{Ident}
use Rattle.yw_state.specs.Judged.{case_place, has_rules, place_key, rules_at, task_place}
use Rattle.yw_state.specs.Map.{get}
use Rattle.yw_state.specs.Nets.{is_atomic}
use Rattle.yw_state.specs.State.{State, TaskAt, no_checks}
use Rattle.yw_state.specs.declared.tree.TreeKind.{TreeKind}
use Rattle.yw_state.specs.declared.tree.TreeKind.TheVariants.{Pre, Select}
use Rattle.yw_state.specs.declared.tree.TreePlace.{TreePlace}
use Rattle.yw_tree.specs.declared.Forest.{Forest}
use Rattle.yw_tree.specs.declared.NetState.{out-NetState}
use Rattle.yw_tree.specs.declared.Node.{out-Node}
use Rattle.yw_trees.proofs.Rules.{at_place}
use Rattle.yw_trees.specs.Owners.{IsNamed, NamesCases, NamesTasks, at_task}
use Rattle.yw_trees.specs.Placed.{AreOwned, Placed, rules_for}
use Rattle.yw_trees.specs.declared.owner.Owner.{Owner}
use Rattle.yw_trees.specs.declared.owner.Owner.TheVariants.{Cases, Task}

-- ---- one tree

-- the rules that are kept by numbers stand at the place
pub rules_are : (known : Holdings) (f : Forest) (s : State) → IsHeld known f s → AreOwned known.specs known.rules → (owner : Owner) (p : TreePlace)
    → IsNamed known.specs owner p → rules_at s p ≡ rules_for owner p.kind known.rules
rules_are known f s h owned owner p is =
    ap (λ m. unwrap_or (get m (place_key p)) []) h.rules ∙ at_place known.specs owned.apart owner p is known.rules owned.owned

pub tells_tree : (known : Holdings) → AreOwned known.specs known.rules → (trees : List Placed) → trees ≡ known.rules → (owner : Owner) (kind : TreeKind)
    (has : Bool) → has ≡ nat_lt 0 (length (rules_for owner kind trees))
    → TellsTree known owner kind has
tells_tree known owned trees same owner kind has e f s p h is of_kind =
    e
    ∙ ap (λ ts. nat_lt 0 (length (rules_for owner kind ts))) same
    ∙ ap (λ k. nat_lt 0 (length (rules_for owner k known.rules))) (sym of_kind)
    ∙ ap (λ rs. nat_lt 0 (length rs)) (sym (rules_are known f s h owned owner p is))

-- ---- a task by its numbers

module _ (known : Holdings) (names : NamesTasks known.specs) (k n t : ℕ) (x : TaskAt) (is : IsTaskNumbered known k n t x) where
  pub task_named : (kind : TreeKind) → IsNamed known.specs (Task k n t) (task_place x kind)
  task_named kind =
      let there = names k n t is.loaded x.within.net x.task kind is.numbered is.of_spec is.of_net in
      let place : at_task is.loaded.spec x.within.net.name x.task.name kind ≡ task_place x kind =
      λ i. record { spec = is.named i; net = Some x.within.net.name; task = Some x.task.name; kind = kind } in
      subst (IsNamed known.specs (Task k n t)) place there

  pub tells_task : (kind : TreeKind) (has : Bool) → TellsTree known (Task k n t) kind has → (f : Forest) (s : State) → IsHeld known f s
      → has ≡ has_rules s (task_place x kind)
  tells_task kind has tells f s h = tells f s (task_place x kind) h (task_named kind) refl

pub tells_chosen : (known : Holdings) → NamesTasks known.specs → (k n t : ℕ) (has : Bool) → TellsTree known (Task k n t) Select has
    → TellsChosen known k n t has
tells_chosen known names k n t has tells f s x h is = tells_task known names k n t x is Select has tells f s h

pub tells_item : (known : Holdings) → NamesTasks known.specs → (k n t : ℕ) (task : tasks.Task) (pre atomic chosen : Bool)
    → TellsTree known (Task k n t) Pre pre → atomic ≡ is_atomic task → TellsChosen known k n t chosen
    → TellsItemChecks known k n t task (record { pre = pre; select = atomic && chosen; post = no_checks.post })
tells_item known names k n t task pre atomic chosen before is_so worklet f s x h is same =
    let a : pre ≡ has_rules s (task_place x Pre) = tells_task known names k n t x is Pre pre before f s h in
    let b : (atomic && chosen) ≡ (is_atomic x.task && has_rules s (task_place x Select)) =
    ap (λ y. y && chosen) (is_so ∙ ap is_atomic (sym same)) ∙ ap (λ y. is_atomic x.task && y) (worklet f s x h is) in
    λ i. record { pre = a i; select = b i; post = no_checks.post }

pub tells_case : (known : Holdings) → NamesCases known.specs → (k : ℕ) (pre : Bool) → TellsTree known (Cases k) Pre pre
    → TellsCaseChecks known k (record { pre = pre; select = no_checks.select; post = no_checks.post })
tells_case known names k pre tells f s l h at =
    let a : pre ≡ has_rules s (case_place l.spec.name Pre) = tells f s (case_place l.spec.name Pre) h (names k l Pre at) refl in
    λ i. record { pre = a i; select = no_checks.select; post = no_checks.post }

-- ---- what stands is numbered

pub task_numbered : (known : Holdings) (f : Forest) (s : State) (i : Ident) (h : NetHere) → IsNetHere known f s i h → (t : ℕ) (task : tasks.Task)
    → slice_get h.net.now.tasks t ≡ Some task
    → IsTaskNumbered known (out-NetState h.state.now).spec (out-NetState h.state.now).net t
    (record { number = t; task = task; within = as_net_at known h })
task_numbered known f s i h is t task at = record {
  loaded = record { text = is.kept.text; spec = h.spec.now };
  numbered = is.kept.stands;
  named = sym (ap name_in is.kept.stands);
  of_spec = is.of_spec;
  of_net = at;
}

pub item_numbered : (known : Holdings) (f : Forest) (s : State) (j : Ident) (h : ItemHere) → IsItemHere known f s j h
    → IsTaskNumbered known (out-NetState h.outer.state.now).spec (out-NetState h.outer.state.now).net (out-Node h.item.now).task (as_task_at known h)
item_numbered known f s j h is = task_numbered known f s _ h.outer is.outer (out-Node h.item.now).task h.task.now is.of_net
