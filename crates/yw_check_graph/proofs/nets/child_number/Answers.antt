use Rattle.std.proofs.Common.{◌∙◌, Some, ap, sym}
use Rattle.yw_check_graph.proofs.ChildLemmas.{child_numbered}
use Rattle.yw_check_graph.proofs.nets.child_number.Goals as goal

pub returns-in-Some : goal.returns-in-Some
returns-in-Some c = λ names is_index.
    child_numbered names c.args.task.now c.as_str.result.now c.number_of.result (sym c.in-Some.ensures ∙ ap Some (sym c.as_str.ensures))
    (c.number_of.ensures.found names is_index) (c.number_of.ensures.missed names is_index)
