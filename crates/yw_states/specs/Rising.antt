-- The keys of a state's rows ascend.
use Rattle.std.specs.Prelude.{◌≡◌, true}
use Rattle.yw_states.specs.Ascending.{ascend, ident_before}
use Rattle.yw_states.specs.Rows.{due_row_before, ended_before, item_row_before, net_row_before, person_before, run_row_before, tree_before}
use Rattle.yw_states.specs.declared.rows.Rows.{Rows}

-- Of each map the keys ascend.
pub record KeysAscend (rows : Rows) : Type 0 where
  pub persons : ascend person_before rows.persons ≡ true
  pub trees : ascend tree_before rows.trees ≡ true
  pub nets : ascend net_row_before rows.nets ≡ true
  pub items : ascend item_row_before rows.items ≡ true
  pub runs : ascend run_row_before rows.runs ≡ true
  pub suspended : ascend ident_before rows.suspended ≡ true
  pub due : ascend due_row_before rows.due ≡ true
  pub ended : ascend ended_before rows.ended ≡ true
