use Rattle.std.proofs.Common.{subst, sym}
use Rattle.yw_task.proofs.AskLaw.{asks_start}
use Rattle.yw_task.proofs.ask.ask_start.Goals as goal
use Rattle.yw_task.specs.Asked.{AsksStart}

pub returns-clause-first : goal.returns-clause-first
returns-clause-first c = subst (AsksStart c.args.node.now) (sym c.start_fault.ensures) (asks_start c.args.node.now)
