use Rattle.std.proofs.Common.{subst, sym}
use Rattle.yw_loose.proofs.Counting.{exlet_right}
use Rattle.yw_loose.proofs.counts.Counts.follow.Goals as goal
use Rattle.yw_loose.specs.Counts.{LosesCase}

pub returns-in-Some : goal.returns-in-Some
returns-in-Some c =
    exlet_right c.args.forest.now c.args.event.now c.in-Some.at.now c.args.self.now c.forget_case.new.self (sym c.in-Some.ensures)
    c.numbers.ensures.identity (subst (λ n. LosesCase n c.args.self.now c.forget_case.new.self) c.case_number.ensures c.forget_case.ensures)
