use Rattle.std.proofs.Common.{◌↔◌, ◌∙◌, List, IsTrue, subst}
use Rattle.yw_reach.specs.Flows.{Cycle}
use Rattle.yw_reach.specs.declared.flow.Flow.{Flow}
use Rattle.yw_check_graph.proofs.CycleLemmas.{cycle_found}
use Rattle.yw_check_graph.proofs.joins.has_cycle.Goals as goal

pub returns : goal.returns
returns c =
    let F : List Flow → Type 0 = λ flows. IsTrue c.in_ok-found.found ↔ Cycle flows in
    cycle_found c.args.net.now c.deref-2.result.now c.as_slice.result.now c.in_ok-flows.flows.items c.in_ok-found.found
    (c.deref-2.ensures.value ∙ c.in_ok-names.ensures) c.as_slice.ensures c.requires.named (c.in_ok-flows.ensures)
    (subst F c.deref-3.ensures.value (c.in_ok-found.ensures))
