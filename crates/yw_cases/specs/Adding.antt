-- Whether an item may be added to a task of a net that stands.
use Rattle.std.specs.Prelude.{Bool, find, is_none, length, nat_lt, ℕ, ◌&&◌}
use Rattle.yw_base.specs.Values.{may_hold}
use Rattle.yw_base.specs.declared.value.Value.{Value}
use Rattle.yw_spec.specs.declared.task.Many.{Many}
use Rattle.yw_spec.specs.declared.task.Param.{Param}
use Rattle.yw_spec.specs.declared.task.Task.{Task}
use Rattle.yw_state.specs.Allowed.{element_param}
use Rattle.yw_state.specs.Options.{is_some_and}
use Rattle.yw_task.specs.Asked.{is_active}
use Rattle.yw_task.specs.Giving.{lacks_value}
use Rattle.yw_tree.specs.Shows.{items_in}
use Rattle.yw_tree.specs.declared.NetState.{NetState, out-NetState}

-- the task is dynamic, and may have more items than so many
abbrev pub has_room : Task → ℕ → Bool
has_room task count = is_some_and task.many (λ (m : Many). m.dynamic && nat_lt count m.max)

-- its items are given such a value as their element
abbrev pub takes_element : Task → Value → Bool
takes_element task value = is_some_and (element_param task) (λ (p : Param). may_hold p.sort value)

-- the task, which has number t, may have one item more in the net, for this element
abbrev pub may_grow : NetState → Task → ℕ → Value → Bool
may_grow state task t element =
    is_active state t && has_room task (length (items_in state t)) && takes_element task element
    && is_none (find (lacks_value (out-NetState state).vals) task.ins)
