-- Of what the conditions of a tree speak, by numbers.
use Rattle.std.specs.Prelude.{◌≡◌, ℕ, List, [], ◌++◌, map, Option, Some, option_and_then, option_map, slice_get, unwrap_or}
use Rattle.yw_accept.specs.Facts.{AreDistinct}
use Rattle.yw_expr.specs.Scope.{binding}
use Rattle.yw_expr.specs.declared.scope.Binding.{Binding}
use Rattle.yw_trees.specs.declared.owner.Owner.{Owner}
use Rattle.yw_trees.specs.declared.owner.Owner.TheVariants.{Cases, Task}
use Rattle.yw_spec.specs.declared.spec.Net.{Net}
use Rattle.yw_spec.specs.declared.spec.Spec.{Spec}
use Rattle.yw_spec.specs.declared.spec.Var.{Var}
use Rattle.yw_spec.specs.declared.task.Param.{Param}
use Rattle.yw_spec.specs.declared.task.Task as tasks

abbrev pub vars_of : List Var → List Binding
vars_of = map (λ (x : Var). binding x.name x.sort)

abbrev pub params_of : List Param → List Binding
params_of = map (λ (p : Param). binding p.name p.sort)

abbrev pub task_in : Spec → ℕ → ℕ → Option tasks.Task
task_in spec n t = option_and_then (λ (net : Net). slice_get net.tasks t) (slice_get spec.nets n)

abbrev pub scope_of : Spec → Owner → List Binding
scope_of spec (Cases k) = unwrap_or (option_map (λ (net : Net). vars_of net.vars) (slice_get spec.nets spec.top)) []
scope_of spec (Task k n t) = unwrap_or (option_map (λ (x : tasks.Task). params_of (x.ins ++ x.outs)) (task_in spec n t)) []

-- of the parameters that a task gives no two have one name, and none of those that its items make
pub record IsApart (t : tasks.Task) : Type 0 where
  pub ins : AreDistinct (map (λ (p : Param). p.name) t.ins)
  pub outs : AreDistinct (map (λ (p : Param). p.name) t.outs)

-- Of the variables of the top net no two have one name, nor have two parameters of a task in one direction.
pub record HasNames (spec : Spec) : Type 0 where
  pub vars : (net : Net) → slice_get spec.nets spec.top ≡ Some net → AreDistinct (map (λ (x : Var). x.name) net.vars)
  pub params : (n t : ℕ) (task : tasks.Task) → task_in spec n t ≡ Some task → IsApart task
