use Rattle.std.proofs.Common.{ℕ, List, Bool, length, take, get_or, ◌∷◌, [], ◌++◌, ◌∙◌, ◌≤◌, ◌<◌, sym, subst, arith}
use Rattle.std.proofs.lemmas.Bool.{false≢true}
use Rattle.std.proofs.lemmas.List.{take_all, take_more}
use Rattle.yw_reach.specs.declared.flow.Flow.{Flow}
use Rattle.yw_reach.specs.Flows.{HasFlow}
use Rattle.yw_reach.specs.Marking.{AreMarked, Marked}
use Rattle.yw_reach.proofs.PathLemmas.{next_marked, next_unmarked}
use Rattle.yw_reach.proofs.levels.next_level.Goals as goal
use Rattle.yw_reach.proofs.levels.next_level.Goals.{then-get, else-get}

pub loop-flow-preserved : goal.loop-flow-preserved
loop-flow-preserved c =
    let lt : c.loop-flow.flow-index < length c.args.flows.now = omega arith in
    let f : Flow = get_or c.args.flows.now c.loop-flow.flow-index (record { from = 0; to = 0 }) in
    let before : List Flow = take c.loop-flow.flow-index c.args.flows.now in
    let Q : List Flow → List Bool → Type 0 = λ fs next. AreMarked c.args.count (λ b. (a : ℕ) × Marked c.args.level.now a × HasFlow fs a b) next in
    subst (λ fs. Q fs c.if-get.next) (sym (take_more c.args.flows.now c.loop-flow.flow-index (record { from = 0; to = 0 }) lt))
    (elim c.if-get.branch [
      | then-get w ↦ subst (λ next. Q (take c.loop-flow.flow-index c.args.flows.now ++ f ∷ []) next) (sym (w.next-is ∙ w.mark.ensures))
          (next_marked c.args.count before f c.args.level.now c.loop-flow.next (c.requires.flows c.loop-flow.flow-index _ lt).1 c.loop-flow.invariant (c.get.ensures.0 w.if-get.true))
      | else-get w ↦ subst (λ next. Q (take c.loop-flow.flow-index c.args.flows.now ++ f ∷ []) next) (sym w.next-is)
          (next_unmarked c.args.count before f c.args.level.now c.loop-flow.next (c.requires.flows c.loop-flow.flow-index _ lt).1 c.loop-flow.invariant (λ m. false≢true (sym w.if-get.false ∙ c.get.ensures.1 m)))
    ])

pub returns : goal.returns
returns c =
    let le : length c.args.flows.now ≤ c.loop-flow.flow-index = omega arith in
    let Q : List Flow → Type 0 = λ fs. AreMarked c.args.count (λ b. (a : ℕ) × Marked c.args.level.now a × HasFlow fs a b) c.loop-flow.next in
    subst Q (take_all c.loop-flow.flow-index c.args.flows.now le) c.loop-flow.invariant
