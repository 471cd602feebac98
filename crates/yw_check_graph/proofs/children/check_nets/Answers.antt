use Rattle.std.proofs.Common.{◌≡◌, List, subst}
use Rattle.yw_read.specs.declared.raw.RawNet.{RawNet}
use Rattle.yw_reach.specs.declared.flow.Flow.{Flow}
use Rattle.yw_reach.specs.Flows.{Path}
use Rattle.yw_reach.specs.Marking.{AreMarked}
use Rattle.yw_accept.specs.Faults.{of_net}
use Rattle.yw_accept.specs.Nodes.{net_names}
use Rattle.yw_check_graph.specs.Graph.{name_at}
use Rattle.yw_check_graph.proofs.NetLemmas.{reached_none, reached_some}
use Rattle.yw_check_graph.proofs.children.check_nets.Goals as goal

pub returns-in-None : goal.returns-in-None
returns-in-None c =
    let M : List Flow → Type 0 = λ flows. AreMarked c.args.graph.now.count (λ k. Path flows c.args.graph.now.top k) c.in_ok-marks.marks in
    reached_none c.args.raw.now c.args.graph.now c.requires.named c.requires.graph c.in_ok-marks.marks
    (subst M c.deref.ensures.value (c.in_ok-marks.ensures)) (c.in-None.ensures)

pub returns : goal.returns
returns c =
    let M : List Flow → Type 0 = λ flows. AreMarked c.args.graph.now.count (λ k. Path flows c.args.graph.now.top k) c.in_ok-marks.marks in
    let B : List RawNet → Type 0 = λ nets. c.in_ok-broken-in-Some.broken ≡ of_net 6 (name_at (net_names nets) c.in-Some.number) in
    reached_some c.args.raw.now c.args.graph.now c.requires.named c.requires.graph c.in_ok-marks.marks
    (subst M c.deref.ensures.value (c.in_ok-marks.ensures)) c.in-Some.number c.in_ok-broken-in-Some.broken (c.in-Some.ensures)
    (subst B c.as_slice.ensures (c.in_ok-broken-in-Some.ensures))
