use Rattle.std.proofs.Common.{subst, sym}
use Rattle.yw_task.proofs.AskLaw.{asks_complete}
use Rattle.yw_task.proofs.ask.ask_complete.Goals as goal
use Rattle.yw_task.specs.Asked.{AsksComplete}

pub returns-clause-first : goal.returns-clause-first
returns-clause-first c = subst (AsksComplete c.args.node.now c.args.who.now) (sym c.complete_fault.ensures) (asks_complete c.args.node.now c.args.who.now)
