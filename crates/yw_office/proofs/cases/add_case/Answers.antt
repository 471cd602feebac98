use Rattle.std.proofs.Common.{sym}
use Rattle.yw_office.proofs.Standing.{no_case, one_case}
use Rattle.yw_office.proofs.cases.add_case.Goals as goal

pub returns-in_ok-push-in-Some : goal.returns-in_ok-push-in-Some
returns-in_ok-push-in-Some c =
    one_case c.args.forest.now c.args.n c.args.cases.now.items c.push.new.self.items c.in_ok-push-in-Some.ensures.items

pub returns-in-None : goal.returns-in-None
returns-in-None c = no_case c.args.forest.now c.args.n c.args.cases.now.items (sym c.in-None.ensures)
