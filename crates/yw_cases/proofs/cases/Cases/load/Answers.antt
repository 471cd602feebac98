use Rattle.yw_cases.proofs.Resting.{rested_load}
use Rattle.yw_cases.proofs.cases.Cases.load.Goals as goal

pub invariant_of-self : goal.invariant_of-self
invariant_of-self c =
    rested_load c.self.inside.standing c.self.inside.loose c.self.invariant c.in-Ok.name c.args.text.now c.load.new.standing c.in-Ok.ensures.ok
