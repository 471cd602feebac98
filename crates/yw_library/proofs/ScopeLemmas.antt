-- Of what the conditions of a tree speak is the same by names and by numbers.
use Rattle.std.proofs.Common.{◌≡◌, ◌++◌, ℕ, List, [], Option, None, Some, sym, ap, ◌∙◌}
use Rattle.std.specs.Prelude.{option_and_then, option_map, slice_get, unwrap_or}
use Rattle.yw_expr.specs.declared.scope.Binding.{Binding}
use Rattle.yw_trees.specs.Owners.{by_names, net_number, numbered_task, owner_in}
use Rattle.yw_library.specs.Scopes.{params_of, scope_of}
use Rattle.yw_trees.specs.declared.owner.Owner.{Owner}
use Rattle.yw_trees.specs.declared.owner.Owner.TheVariants.{Cases, Task}
use Rattle.yw_spec.specs.declared.spec.Net.{Net}
use Rattle.yw_spec.specs.declared.spec.Spec.{Spec}
use Rattle.yw_spec.specs.declared.task.Task as tasks
use Rattle.yw_state.proofs.Tests.{map_some, nowhere, some_same, then_some}
use Rattle.yw_state.specs.NewRule.{tree_scope}
use Rattle.yw_state.specs.Nets.{net_called, task_called, task_number}
use Rattle.yw_state.specs.declared.tree.TreeKind.{TreeKind}
use Rattle.yw_state.specs.declared.tree.TreePlace.{TreePlace}

abbrev a_place : List ℕ → Option (List ℕ) → Option (List ℕ) → TreeKind → TreePlace
a_place name net task kind = record { spec = name; net = net; task = task; kind = kind }

abbrev of_found : Option tasks.Task → List Binding
of_found o = unwrap_or (option_map (λ (x : tasks.Task). params_of (x.ins ++ x.outs)) o) []

by_scope : (k : ℕ) (spec : Spec) (name : List ℕ) (net task : Option (List ℕ)) (kind : TreeKind) (o : Owner) → by_names k spec net task ≡ Some o
    → tree_scope spec (a_place name net task kind) ≡ scope_of spec o
by_scope k spec name None None kind o e = ap (scope_of spec) (some_same (Cases k) o e)
by_scope k spec name None (Some task) kind o e = nowhere e
by_scope k spec name (Some net) None kind o e = nowhere e
by_scope k spec name (Some net) (Some task) kind o e =
    let (n, net_at, numbered) = then_some (numbered_task k spec task) (net_number spec net) o e in
    let (x, here, tasked) = then_some (λ (y : Net). option_map (λ t. Task k n t) (task_number y task)) (slice_get spec.nets n) o numbered in
    let (t, task_at, is) = map_some (λ t. Task k n t) (task_number x task) o tasked in
    let net_is : net_called spec net ≡ Some x = ap (option_and_then (slice_get spec.nets)) net_at ∙ here in
    let task_is : task_called x task ≡ slice_get x.tasks t = ap (option_and_then (slice_get x.tasks)) task_at in
    ap of_found
    (ap (option_and_then (λ (y : Net). task_called y task)) net_is ∙ task_is ∙ sym (ap (option_and_then (λ (y : Net). slice_get y.tasks t)) here))
    ∙ ap (scope_of spec) is

pub same_scope : (k : ℕ) (spec : Spec) (p : TreePlace) (o : Owner) → owner_in k spec p ≡ Some o → tree_scope spec p ≡ scope_of spec o
same_scope k spec p o e = by_scope k spec p.spec p.net p.task p.kind o e
