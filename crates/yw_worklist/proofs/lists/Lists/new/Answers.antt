use Rattle.yw_worklist.proofs.Looking.{made_new}
use Rattle.yw_worklist.proofs.lists.Lists.new.Goals as goal

pub returns : goal.returns
returns c = λ s held all.
    made_new c.blank-lists.result c.blank-lists.ensures c.args.known.now c.args.forest.now c.args.cases.now c.look_cases.new.self c.ask_all.new.self
    c.in_ok-look_cases.ensures c.in_ok-ask_all.ensures s held all
