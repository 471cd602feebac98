-- Rows of items and nets that stand in boxes.
use Rattle.std.specs.Prelude.{List, ℕ, map, zip}
use Rattle.yw_base.specs.declared.value.Value.{Value}
use Rattle.yw_spec.specs.declared.spec.Net.{Net}
use Rattle.yw_spec.specs.declared.spec.Var.{Var}
use Rattle.yw_spec.specs.declared.task.Task.{Task}
use Rattle.yw_state.specs.Identity.{Ident}
use Rattle.yw_state.specs.declared.answer.ItemRow.{ItemRow}
use Rattle.yw_state.specs.declared.answer.NamedValue.{NamedValue}
use Rattle.yw_state.specs.declared.answer.NetRow.{NetRow}
use Rattle.yw_tree.specs.declared.NetState.{NetState, out-NetState}
use Rattle.yw_tree.specs.declared.Node.{Node, out-Node}

-- an item of a task
abbrev pub row_of_item : Ident → Task → Node → ItemRow
row_of_item j t n = let l = out-Node n in record { item = j; task = t.name; stage = l.stage; who = l.who }

abbrev pub named_value : Var × Value → NamedValue
named_value e = record { name = e.0.name; value = e.1 }

-- a net of a specification with this name
abbrev pub row_of_net : Ident → List ℕ → Net → NetState → NetRow
row_of_net i spec net state =
    record { net = i; spec = spec; name = net.name; values = map named_value (zip net.vars (out-NetState state).vals) }
