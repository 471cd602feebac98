use Rattle.yw_engine.proofs.Loads.{load_applied}
use Rattle.yw_engine.proofs.library.apply_load.Goals as goal

pub returns-clause-applied : goal.returns-clause-applied
returns-clause-applied c =
    load_applied c.args.work.now.standing c.load_as.new.self c.args.name.now c.args.text.now c.in_ok-leads.leads c.in_ok-leads.ensures.told
