-- What the completion of an item asks of the item itself.
use Rattle.std.specs.Prelude.{Bool, is_some, ◌&&◌}
use Rattle.yw_spec.specs.declared.task.Task.{Task}
use Rattle.yw_state.specs.Passing.{row_fits}
use Rattle.yw_state.specs.Values.{Row}
use Rattle.yw_state.specs.Words.{is_executing}
use Rattle.yw_tree.specs.declared.Node.{Node, out-Node}

-- somebody is at work on the item, and the values are of the sorts that its task makes
abbrev pub can_make : Node → Task → Row → Bool
can_make n task out = is_executing (out-Node n).stage && is_some (out-Node n).who && row_fits task.outs out
