use Rattle.yw_expr.proofs.SmallValues.{view_small}
use Rattle.yw_expr.proofs.Worth.{view_sorted}
use Rattle.yw_expr.proofs.value.view.Goals as goal

pub returns-clause-sorted : goal.returns-clause-sorted
returns-clause-sorted c = view_sorted c.args.row.now c.args.e.now c.node_value.result c.root.ensures.sorted cc

pub returns-clause-small : goal.returns-clause-small
returns-clause-small c = view_small c.args.row.now c.args.e.now c.node_value.result cc
