use Rattle.std.proofs.Common.{sym}
use Rattle.std.proofs.lemmas.Result.{on_ok_weaker}
use Rattle.yw_library.specs.Names.{names_of}
use Rattle.yw_restore.proofs.Drawn.{no_case_here}
use Rattle.yw_restore.proofs.Gathering.{gathers_none}
use Rattle.yw_restore.proofs.cases.gather_number.Goals as goal
use Rattle.yw_state.specs.Answers.{of_case}

pub returns : goal.returns
returns c = on_ok_weaker c.gather_case.result (λ gathers s held. gathers s c.args.n held (sym c.in-Some.ensures)) c.gather_case.ensures

pub returns-in_default : goal.returns-in_default
returns-in_default c = λ s held.
    gathers_none s (of_case s c.args.n) (no_case_here s (names_of c.args.known.now) c.args.forest.now c.args.n held.boxed held.sites
    (sym c.in_default.ensures))
    c.args.lines.now
