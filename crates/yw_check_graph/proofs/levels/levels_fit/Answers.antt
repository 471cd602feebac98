use Rattle.std.proofs.Common.{◌≡◌, List, subst}
use Rattle.yw_read.specs.declared.raw.RawNet.{RawNet}
use Rattle.yw_reach.specs.declared.flow.Flow.{Flow}
use Rattle.yw_reach.specs.Flows.{IsBehind}
use Rattle.yw_reach.specs.Marking.{AreMarked}
use Rattle.yw_accept.specs.Faults.{of_net}
use Rattle.yw_accept.specs.Graph.{LevelsFit, most_levels}
use Rattle.yw_accept.specs.Nodes.{net_names}
use Rattle.yw_accept.proofs.FactsLemmas.{is_named}
use Rattle.yw_check_graph.specs.Graph.{name_at}
use Rattle.yw_check_graph.proofs.NetLemmas.{levels_none, levels_some}
use Rattle.yw_check_graph.proofs.levels.levels_fit.Goals as goal

pub net_graph-requires : goal.net_graph-requires
net_graph-requires c = is_named c.args.raw.now c.requires

pub returns-in-None : goal.returns-in-None
unfolding LevelsFit
returns-in-None c =
    let M : List Flow → Type 0 = λ flows. AreMarked c.in_ok-graph.graph.count (λ k. IsBehind flows c.in_ok-graph.graph.top k most_levels) c.in_ok-deep.deep in
    levels_none c.args.raw.now c.in_ok-graph.graph (is_named c.args.raw.now c.requires) (c.in_ok-graph.ensures) c.in_ok-deep.deep
    (subst M c.deref.ensures.value (c.in_ok-deep.ensures)) (c.in-None.ensures)

pub returns : goal.returns
unfolding LevelsFit
returns c =
    let M : List Flow → Type 0 = λ flows. AreMarked c.in_ok-graph.graph.count (λ k. IsBehind flows c.in_ok-graph.graph.top k most_levels) c.in_ok-deep.deep in
    let B : List RawNet → Type 0 = λ nets. c.in_ok-broken-in-Some.broken ≡ of_net 7 (name_at (net_names nets) c.in-Some.number) in
    levels_some c.args.raw.now c.in_ok-graph.graph (is_named c.args.raw.now c.requires) (c.in_ok-graph.ensures) c.in_ok-deep.deep
    (subst M c.deref.ensures.value (c.in_ok-deep.ensures)) c.in-Some.number c.in_ok-broken-in-Some.broken (c.in-Some.ensures)
    (subst B c.as_slice.ensures (c.in_ok-broken-in-Some.ensures))
