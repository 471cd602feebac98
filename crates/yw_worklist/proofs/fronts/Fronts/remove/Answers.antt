use Rattle.yw_worklist.proofs.FrontLemmas.{front_taken}
use Rattle.yw_worklist.proofs.fronts.Fronts.remove.Goals as goal

pub returns : goal.returns
returns c =
    front_taken c.args.self.now.set.keys c.remove.new.self.keys c.args.id.now c.numbers.result.now c.numbers.ensures.numbers c.remove.ensures.updates.1
    c.remove.ensures.keys
