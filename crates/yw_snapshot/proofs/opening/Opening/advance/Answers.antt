use Rattle.std.proofs.Common.{Ok, ap}
use Rattle.yw_snapshot.proofs.Standing.{passes_last}
use Rattle.yw_snapshot.proofs.opening.Opening.advance.Goals as goal

pub returns-in-Some-clause-read : goal.returns-in-Some-clause-read
returns-in-Some-clause-read g c = λ tells records is.
    let found = c.in_ok-size.ensures in
    let opened = found.opened c.in-Some.size (ap Ok c.in-Some.is) in
    passes_last c.args.self.now c.look.new.self c.pass.new.self (g.D.Desk.state c.args.desk.now) records c.in-Some.size found.stays c.pass.ensures.passed
    (found.stands tells records is) (opened.here tells records is) opened.at_hand
