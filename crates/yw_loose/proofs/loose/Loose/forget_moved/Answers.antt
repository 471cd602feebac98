use Rattle.yw_loose.proofs.Moving.{forgotten, unmoved}
use Rattle.yw_loose.proofs.loose.Loose.forget_moved.Goals as goal

pub returns-in-Some : goal.returns-in-Some
returns-in-Some c =
    forgotten c.args.self.now c.forget_case.new.self c.args.event.now c.in-Some.case (c.in-Some.ensures c.requires) c.forget_case.ensures

pub returns-in-None : goal.returns-in-None
returns-in-None c = unmoved c.args.self.now c.args.event.now (c.in-None.ensures c.requires)
