-- What is written into the box of a case or an item.
use Rattle.yw_exlet.specs.declared.own.Own.{Own}
use Rattle.yw_exlet.specs.declared.own.Own.TheVariants as own
use Rattle.yw_state.specs.After.{without_check}
use Rattle.yw_tree.specs.declared.Case.{Case}
use Rattle.yw_tree.specs.declared.NetState.{NetState}
use Rattle.yw_tree.specs.declared.Node.{Node, Node-F}
use Rattle.yw_tree.specs.declared.Run.{Run}

abbrev pub case_written : Own → Case → Case
case_written (own.Suspended b) c = record c { suspended = b }
case_written (own.Passed kind) c = record c { due = without_check kind c.due }

abbrev pub item_written : Own → Node-F NetState Node Run → Node-F NetState Node Run
item_written (own.Suspended b) l = record l { suspended = b }
item_written (own.Passed kind) l = record l { due = without_check kind l.due }
