use Rattle.yw_exlet.proofs.Stands.{run_there}
use Rattle.yw_exlet.proofs.Taking.{taken_away}
use Rattle.yw_exlet.proofs.takes.take_removal.Goals as goal

pub take_first-requires-clause-stands : goal.take_first-requires-clause-stands
take_first-requires-clause-stands c = run_there c.args.forest.now c.requires.boxed c.args.r.now c.numbers-run.ensures.identity c.requires.runs

pub returns-clause-takes : goal.returns-clause-takes
returns-clause-takes c =
    taken_away c.args.r.now c.args.forest.now c.take_first.new.forest c.take_first.ensures.sites c.args.j.now c.cut-stood.new.self c.cut-stood.ensures.sites c.requires.above
