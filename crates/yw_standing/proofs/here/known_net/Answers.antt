use Rattle.std.proofs.Common.{sym}
use Rattle.yw_standing.proofs.HereLaw.{known_there}
use Rattle.yw_standing.proofs.here.known_net.Goals as goal
use Rattle.yw_known.proofs.Standing.{no_net_here}

pub returns-in_err-state : goal.returns-in_err-state
returns-in_err-state c = λ s h. rw c.from_residual.ensures (no_net_here c.args.known.now c.args.forest.now s h c.args.at.now (sym c.in_err-state.ensures))

pub returns : goal.returns
returns c = λ s h.
    known_there c.args.known.now c.args.forest.now s h c.args.at.now c.numbers.ensures.identity c.are_named.ensures c.in_ok-state.state (sym c.in_ok-state.ensures) c.net-2.result
    c.net-2.ensures
