use Rattle.std.proofs.Common.{List, sym, subst, All, ◌∙◌}
use Rattle.yw_reach.specs.declared.flow.Flow.{Flow}
use Rattle.yw_reach.specs.Flows.{IsWithin, Path}
use Rattle.yw_reach.specs.Marking.{AreMarked}
use Rattle.yw_reach.proofs.FlowLemmas.{turned_within}
use Rattle.yw_reach.proofs.PathLemmas.{from_turned}
use Rattle.yw_reach.proofs.paths.reaching.Goals as goal

pub reached-requires-clause-flows : goal.reached-requires-clause-flows
reached-requires-clause-flows c =
    let P : List Flow → Type 0 = λ fs. All (IsWithin c.args.count) fs in
    subst P (sym (c.deref.ensures.value ∙ c.in_ok-back.ensures)) (turned_within c.args.count c.args.flows.now c.requires.flows)

pub returns : goal.returns
returns c =
    let P : List Flow → Type 0 = λ fs. AreMarked c.args.count (λ k. Path fs c.args.to k) c.in_ok-marks.marks in
    from_turned c.args.count c.args.to c.args.flows.now c.in_ok-marks.marks (subst P (c.deref.ensures.value ∙ c.in_ok-back.ensures) c.in_ok-marks.ensures)
