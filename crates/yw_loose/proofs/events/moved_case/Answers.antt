use Rattle.std.proofs.Common.{sym}
use Rattle.yw_loose.proofs.Within.{begun_moves, exlet_moves}
use Rattle.yw_loose.proofs.events.moved_case.Goals as goal

pub returns-in-Some : goal.returns-in-Some
returns-in-Some c = λ none.
    exlet_moves c.args.event.now c.in-Some.at.now (sym c.in-Some.ensures) c.numbers.ensures.identity c.case_number.result c.case_number.ensures

pub returns-in-None : goal.returns-in-None
returns-in-None c = λ none. begun_moves c.args.event.now none (sym c.in-None.ensures) c.begun_or_over.result c.begun_or_over.ensures
