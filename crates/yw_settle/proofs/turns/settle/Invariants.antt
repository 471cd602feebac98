use Rattle.yw_settle.specs.Settled.{HaveCome}
use Rattle.yw_settle.proofs.turns.settle.Given as goal

abbrev pub invariant-loop-taken : goal.invariant-loop-taken
invariant-loop-taken g l =
    let M = g.M.Machine in HaveCome M.passes (M.state l.fn.machine) l.case l.fn.events (M.state l.machine) l.events l._taken × M.is_ready l.machine
