-- Parameters of a task one by one, and the tasks of a net.
use Rattle.std.specs.Prelude.{◌≡◌, List, true, Some, option_to_list}
use Rattle.std.specs.List.{All}
use Rattle.yw_expr.specs.declared.scope.Binding.{Binding}
use Rattle.yw_read.specs.declared.raw.RawIn.{RawIn}
use Rattle.yw_read.specs.declared.raw.RawTask.{RawTask}
use Rattle.yw_read.specs.declared.raw.RawNet.{RawNet}
use Rattle.yw_read.specs.declared.raw.RawSpec.{RawSpec}
use Rattle.yw_accept.specs.Faults.{in_net}
use Rattle.yw_accept.specs.Order.{Check, Demand, InOrder}
use Rattle.yw_accept.specs.Scopes.{ParametersFit, Spells, element_of, is_item}

-- the item's sort is that of the elements of `each`, over the scope
abbrev pub ItemFitsOver : List Binding → RawTask → RawIn → Type 0
ItemFitsOver scope task p = is_item task p ≡ true → All (Spells scope (λ sort. element_of sort ≡ Some p.sort)) (option_to_list task.each)

abbrev pub TaskParametersAgree : RawSpec → RawNet → RawTask → Check
TaskParametersAgree raw net task = Demand (ParametersFit raw net task) (in_net 11 net.name task.name)

abbrev pub NetParametersAgree : RawSpec → RawNet → Check
NetParametersAgree raw net = InOrder (TaskParametersAgree raw net) net.task
