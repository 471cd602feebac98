use Rattle.std.proofs.Common.{◌∙◌, List, sym, subst, true≢false}
use Rattle.yw_reach.specs.declared.flow.Flow.{Flow}
use Rattle.yw_reach.specs.Flows.{Path}
use Rattle.yw_reach.specs.Marking.{AreMarked}
use Rattle.yw_check_graph.proofs.NetLemmas.{none_back, marked_back}
use Rattle.yw_check_graph.proofs.children.back_to.Goals as goal

pub returns-then-not-cyclic : goal.returns-then-not-cyclic
returns-then-not-cyclic c = λ net.
    none_back c.args.raw.now c.args.graph.now c.requires.named c.requires.graph c.args.number net c.requires.number
    (λ cycle. true≢false (sym (c.requires.cyclic.1 cycle) ∙ c.if-not-cyclic.true))

pub returns : goal.returns
returns c = λ net.
    let M : List Flow → Type 0 = λ flows. AreMarked c.args.graph.now.count (λ k. Path flows k c.args.number) c.in_ok-marks.marks in
    marked_back c.args.raw.now c.args.graph.now c.requires.named c.requires.graph c.args.number net c.requires.number c.in_ok-marks.marks
    (subst M c.deref.ensures.value (c.in_ok-marks.ensures))
