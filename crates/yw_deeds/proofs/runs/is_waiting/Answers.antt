use Rattle.std.proofs.Common.{sym}
use Rattle.yw_deeds.proofs.RunsGo.{fails_so, passes_so}
use Rattle.yw_deeds.proofs.runs.is_waiting.Goals as goal
use Rattle.yw_deeds.specs.Runs.{waits}

pub returns-in-Some : goal.returns-in-Some
returns-in-Some c = sym (passes_so c.args.standing.now c.requires c.args.r.now c.numbers.ensures.identity c.in-Some.run'.now (sym c.in-Some.ensures) waits)

pub returns-in-None : goal.returns-in-None
returns-in-None c = sym (fails_so c.args.standing.now c.requires c.args.r.now c.numbers.ensures.identity (sym c.in-None.ensures) waits)
