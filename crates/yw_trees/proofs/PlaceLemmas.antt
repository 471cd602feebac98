-- What has the tree at a place of a specification, step by step.
use Rattle.std.proofs.Common.{◌≡◌, ℕ, List, Bool, true, false, cond, Option, None, Some, refl, sym, ap, ◌∙◌}
use Rattle.std.specs.Prelude.{◌&&◌, ◌||◌, is_some, not, option_and_then, option_map, slice_get}
use Rattle.std.specs.Bool as bools
use Rattle.yw_trees.specs.Owners.{at_task, by_names, may_own, net_number, numbered_task, owner_in, spec_number}
use Rattle.yw_trees.specs.declared.owner.Owner.{Owner}
use Rattle.yw_trees.specs.declared.owner.Owner.TheVariants.{Cases, Task}
use Rattle.yw_spec.specs.declared.spec.Net.{Net}
use Rattle.yw_spec.specs.declared.spec.Spec.{Spec}
use Rattle.yw_spec.specs.declared.task.Task as tasks
use Rattle.yw_state.proofs.Tests.{by_test, map_some, nowhere, some_same, then_some}
use Rattle.yw_state.specs.Judged.{case_place, is_select, is_tree_place}
use Rattle.yw_state.specs.Nets.{child_net, is_atomic, task_called, task_number}
use Rattle.yw_state.specs.Options.{is_some_and}
use Rattle.yw_state.specs.declared.tree.TreeKind.{TreeKind}
use Rattle.yw_state.specs.declared.tree.TreePlace.{TreePlace}

module _ (k : ℕ) (spec : Spec) (net task : List ℕ) (kind : TreeKind) where
  abbrev has : tasks.Task → Bool
  has t = is_atomic t || is_some (child_net t) && not (is_select kind)

  abbrev owned : Option Owner
  owned = may_own k spec (at_task spec net task kind)

  abbrev by_net : Option ℕ → Option Owner
  by_net n =
      cond (is_some_and (option_and_then (λ (x : Net). task_called x task) (option_and_then (slice_get spec.nets) n)) has)
      (option_and_then (numbered_task k spec task) n) None

  abbrev in_net : ℕ → Option Net → Option Owner
  in_net n x = cond (is_some_and (option_and_then (λ (y : Net). task_called y task) x) has)
      (option_and_then (λ (y : Net). option_map (λ t. Task k n t) (task_number y task)) x) None

  abbrev by_task : ℕ → Net → Option ℕ → Option Owner
  by_task n x t = cond (is_some_and (option_and_then (slice_get x.tasks) t) has) (option_map (λ u. Task k n u) t) None

  abbrev of_task : ℕ → ℕ → Option tasks.Task → Option Owner
  of_task n t y = cond (is_some_and y has) (Some (Task k n t)) None

  pub no_net_number : net_number spec net ≡ None → owned ≡ None
  no_net_number e = ap by_net e

  module _ (n : ℕ) (numbered : net_number spec net ≡ Some n) where
    pub no_net : slice_get spec.nets n ≡ None → owned ≡ None
    no_net e = ap by_net numbered ∙ ap (in_net n) e

    module _ (x : Net) (here : slice_get spec.nets n ≡ Some x) where
      pub no_task_number : task_number x task ≡ None → owned ≡ None
      no_task_number e = ap by_net numbered ∙ ap (in_net n) here ∙ ap (by_task n x) e

      module _ (t : ℕ) (called : task_number x task ≡ Some t) where
        pub no_task : slice_get x.tasks t ≡ None → owned ≡ None
        no_task e = ap by_net numbered ∙ ap (in_net n) here ∙ ap (by_task n x) called ∙ ap (of_task n t) e

        module _ (y : tasks.Task) (there : slice_get x.tasks t ≡ Some y) where
          pub no_trees : has y ≡ false → owned ≡ None
          no_trees e = ap by_net numbered ∙ ap (in_net n) here ∙ ap (by_task n x) called ∙ ap (of_task n t) there ∙ ap (λ b. cond b (Some (Task k n t)) None) e

          pub some_trees : has y ≡ true → owned ≡ Some (Task k n t)
          some_trees e = ap by_net numbered ∙ ap (in_net n) here ∙ ap (by_task n x) called ∙ ap (of_task n t) there
              ∙ ap (λ b. cond b (Some (Task k n t)) None) e

-- ---- a place of a tree has something that has it

number_is : (k : ℕ) (spec : Spec) (net task : Option (List ℕ)) (o : Owner) → by_names k spec net task ≡ Some o → spec_number o ≡ k
number_is k spec None None o e = ap spec_number (sym (some_same (Cases k) o e))
number_is k spec None (Some task) o e = nowhere e
number_is k spec (Some net) None o e = nowhere e
number_is k spec (Some net) (Some task) o e =
    let (n, net_at, numbered) = then_some (numbered_task k spec task) (net_number spec net) o e in
    let (x, here, tasked) = then_some (λ (y : Net). option_map (λ t. Task k n t) (task_number y task)) (slice_get spec.nets n) o numbered in
    let (t, task_at, is) = map_some (λ t. Task k n t) (task_number x task) o tasked in
    ap spec_number (sym is)

-- where it is one, it has its number
pub in_its_spec : (k : ℕ) (spec : Spec) (p : TreePlace) (o : Owner) → owner_in k spec p ≡ Some o → spec_number o ≡ k
in_its_spec k spec p o e = number_is k spec p.net p.task o e

pub may_stand : (k : ℕ) (spec : Spec) (p : TreePlace) (o : Owner) → may_own k spec p ≡ Some o → (is_tree_place spec p ≡ true) × (owner_in k spec p ≡ Some o)
may_stand k spec p o e =
    by_test (is_tree_place spec p)
    (λ t. (t, ap (λ b. cond b (owner_in k spec p) None) (sym t) ∙ e))
    (λ f. nowhere (ap (λ b. cond b (owner_in k spec p) None) (sym f) ∙ e))

-- ---- the cases of a specification

pub if_some : {A : Type 0} (b : Bool) (x : A) → bools.then_some b x ≡ cond b (Some x) None
if_some true x = refl
if_some false x = refl

pub own_cases : (k : ℕ) (spec : Spec) (p : TreePlace) → p.net ≡ None → p.task ≡ None → (b : Bool) → b ≡ is_tree_place spec (case_place p.spec p.kind)
    → cond b (Some (Cases k)) None ≡ may_own k spec p
own_cases k spec p net task b e =
    let place : case_place p.spec p.kind ≡ p = sym (λ i. record { spec = p.spec; net = net i; task = task i; kind = p.kind }) in
    ap (λ x. cond x (Some (Cases k)) None) e ∙ ap (may_own k spec) place
