use Rattle.std.proofs.Common.{sym}
use Rattle.yw_known.proofs.Standing.{net_is_here, no_net_here, numbered}
use Rattle.yw_walk.proofs.nets.net_at.Goals as goal

pub returns-in_err-state-clause-here : goal.returns-in_err-state-clause-here
returns-in_err-state-clause-here c = λ is s h.
    rw c.from_residual.ensures (no_net_here c.args.known.now c.args.forest.now s h c.args.at.now (sym (c.in_err-state.ensures c.args.known.now s h is)))

pub returns-in_err-found-clause-here : goal.returns-in_err-found-clause-here
returns-in_err-found-clause-here c = λ is s h.
    absurd (numbered c.args.known.now c.args.forest.now s h c.args.at.now c.numbers.ensures.identity c.in_ok-state.state.now
    (sym (c.in_ok-state.ensures c.args.known.now s h is)) c.are_named.ensures c.in_err-found.ensures)

pub returns-clause-here : goal.returns-clause-here
returns-clause-here c = λ is s h.
    net_is_here c.args.known.now c.args.forest.now s h c.args.at.now c.numbers.ensures.identity _
    (sym (c.in_ok-state.ensures c.args.known.now s h is)) c.in_ok-found.ensures
