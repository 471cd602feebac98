use Rattle.std.proofs.Common.{sym}
use Rattle.yw_deeds.proofs.KnownGo.{case_net, case_wanted, no_case}
use Rattle.yw_deeds.proofs.known.net_of_case.Goals as goal

pub returns-in_err-case : goal.returns-in_err-case
returns-in_err-case c = λ s h. rw c.from_residual.ensures (no_case c.args.known.now c.args.forest.now s h c.args.n c.in_err-case.ensures)

pub returns-in_err-found : goal.returns-in_err-found
returns-in_err-found c = λ s h.
    absurd (case_wanted c.args.known.now c.args.forest.now s h c.args.n c.in_ok-case.case.now (sym c.in_ok-case.ensures) c.are_named.ensures c.in_err-found.ensures)

pub returns : goal.returns
returns c = λ s h.
    case_net c.args.known.now c.args.forest.now s h c.args.n c.in_ok-case.case.now (sym c.in_ok-case.ensures) c.in_ok-found.found c.in_ok-found.ensures
