use Rattle.std.proofs.Common.{◌+◌, ap, false, refl, sym, take, take_all, ◌∙◌}
use Rattle.yw_work.specs.Holds.{goes_on, held_on}
use Rattle.yw_worklist.proofs.FrontLemmas.{held_more, never_held}
use Rattle.yw_worklist.proofs.lists.Lists.is_held.Goals as goal
use Rattle.yw_worklist.specs.Fronts.{has_front}

pub returns-then-is_empty : goal.returns-then-is_empty
returns-then-is_empty c =
    let marks = has_front c.args.self.now.marks in
    sym (never_held marks (has_front c.args.self.now.runs) c.args.at.now (c.is_empty.ensures c.if-is_empty.true))

pub loop-k-preserved : goal.loop-k-preserved
loop-k-preserved c =
    let marks = has_front c.args.self.now.marks in
    let runs = has_front c.args.self.now.runs in
    let numbers = c.numbers-numbers.result.now in
    let k = c.loop-k.k in
    c.goes_on-held-in-loop-k.ensures ∙ ap (goes_on (marks (take (k + 1) numbers)) (runs (take (k + 1) numbers))) c.loop-k.invariant
    ∙ held_more marks runs numbers (take (k + 1) numbers) k c.loop-k-test.true refl

pub returns : goal.returns
returns c =
    let marks = has_front c.args.self.now.marks in
    let runs = has_front c.args.self.now.runs in
    c.loop-k.invariant
    ∙ ap (held_on marks runs false) (take_all c.loop-k.k c.numbers-numbers.result.now c.loop-k-test.false ∙ c.numbers-numbers.ensures.numbers)
