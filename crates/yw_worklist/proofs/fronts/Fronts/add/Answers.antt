use Rattle.std.proofs.Common.{◌∙◌}
use Rattle.yw_worklist.proofs.FrontLemmas.{front_put}
use Rattle.yw_worklist.proofs.fronts.Fronts.add.Goals as goal

pub returns : goal.returns
returns c =
    front_put c.args.self.now.set.keys c.insert.new.self.keys c.in_ok-numbers.numbers c.args.id.now (c.in_ok-numbers.ensures.items ∙ c.numbers.ensures.numbers)
    c.in_ok-insert.ensures.keys
