use Rattle.yw_library.specs.Names.{names_of}
use Rattle.yw_loose.proofs.loose.Loose.next_event.Goals as goal

pub returns-in_err-know-clause-rested : goal.returns-in_err-know-clause-rested
returns-in_err-know-clause-rested c = λ s w rested. c.in_err-know.ensures.rested (names_of c.args.known.now) s w.held.boxed w.held.sites rested

pub returns-clause-rested : goal.returns-clause-rested
returns-clause-rested c = λ s w rested.
    c.first_event.ensures.rested s w (c.in_ok-know.ensures.rested (names_of c.args.known.now) s w.held.boxed w.held.sites rested)
