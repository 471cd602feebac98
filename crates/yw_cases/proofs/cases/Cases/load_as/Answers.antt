use Rattle.yw_cases.proofs.Resting.{rested_loaded}
use Rattle.yw_cases.proofs.cases.Cases.load_as.Goals as goal

pub invariant_of-self : goal.invariant_of-self
invariant_of-self c =
    rested_loaded c.self.inside.standing c.self.inside.loose c.self.invariant c.args.name.now c.args.text.now c.in-Ok.leads c.load_as.new.standing c.in-Ok.ensures
