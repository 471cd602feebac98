-- Expressions of a task one by one, and the tasks of a net.
use Rattle.std.specs.Prelude.{List, option_to_list}
use Rattle.std.specs.List.{All}
use Rattle.yw_base.specs.declared.value.Sort.TheVariants as sorts
use Rattle.yw_expr.specs.declared.scope.Binding.{Binding}
use Rattle.yw_read.specs.declared.raw.RawBranch.{RawBranch}
use Rattle.yw_read.specs.declared.raw.RawIn.{RawIn}
use Rattle.yw_read.specs.declared.raw.RawSet.{RawSet}
use Rattle.yw_read.specs.declared.raw.RawTask.{RawTask}
use Rattle.yw_read.specs.declared.raw.RawNet.{RawNet}
use Rattle.yw_accept.specs.Faults.{in_net}
use Rattle.yw_accept.specs.Order.{Check, Demand, InOrder}
use Rattle.yw_accept.specs.Scopes.{ExpressionsFit, Is, IsList, Spells}
use Rattle.yw_check_sorts.specs.Wanted.{IsWanted, sort_named, wanted_by}

-- what is given to a parameter is an expression of its sort
abbrev pub ValueFits : List Binding → RawIn → Type 0
ValueFits scope p = All (Spells scope (Is p.sort)) (option_to_list p.value)

-- a condition is a truth value
abbrev pub ConditionFits : List Binding → RawBranch → Type 0
ConditionFits scope b = All (Spells scope (Is sorts.Bool)) (option_to_list b.when)

-- what a variable becomes is an expression of its sort; of any, where it is none of these variables
abbrev pub AssignmentFits : List Binding → List Binding → RawSet → Type 0
AssignmentFits vars scope s = Spells scope (IsWanted (wanted_by (sort_named vars s.var))) s.value

-- the expressions of a task that speak of the net's variables alone
pub record ReadsFit (scope : List Binding) (task : RawTask) : Type 0 where
  pub each : All (Spells scope IsList) (option_to_list task.each)
  pub given : All (ValueFits scope) task.ins
  pub conditions : All (ConditionFits scope) task.branch

abbrev pub TaskSortsFit : RawNet → RawTask → Check
TaskSortsFit net task = Demand (ExpressionsFit net task) (in_net 9 net.name task.name)

abbrev pub NetSortsFit : RawNet → Check
NetSortsFit net = InOrder (TaskSortsFit net) net.task
