use Rattle.std.proofs.Common.{Ok, ap, ◌∙◌}
use Rattle.yw_outside.specs.Image.{file_in}
use Rattle.yw_snapshot.proofs.Standing.{passes}
use Rattle.yw_snapshot.proofs.opening.Opening.next.Goals as goal

pub returns-clause-read : goal.returns-clause-read
returns-clause-read g c = λ tells records is.
    let i = g.D.Desk.state c.args.desk.now in
    let o = c.look.new.self in
    let found = c.in_ok-size.ensures in
    let opened = found.opened c.in-Some.size (ap Ok c.in-Some.is) in
    let stands = found.stands tells records is in
    passes c.args.self.now o c.pass.new.self i records c.in-Some.size c.from_vec.result found.stays c.pass.ensures.passed stands (opened.here tells records is) opened.at_hand
    (c.from_vec.ensures ∙ c.in_ok-record.ensures.items ∙ c.part.ensures.shown (file_in o.file i) stands.window)
