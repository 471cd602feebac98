use Rattle.std.proofs.Common.{◌≡◌, take, map}
use Rattle.yw_accept.specs.Built.{var_of}
use Rattle.yw_build.proofs.values.vars_of.Given as goal

abbrev pub invariant-loop-variable : goal.invariant-loop-variable
invariant-loop-variable l = l.vars ≡ map var_of (take l.variable-index l.said)
