use Rattle.yw_given.specs.Found.{comes_as}
use Rattle.yw_given.proofs.Finding.{FindsFrom}
use Rattle.yw_given.proofs.numbers.number_vars.Given as goal

abbrev pub invariant-loop-i : goal.invariant-loop-i
invariant-loop-i l = FindsFrom comes_as l.vars l.i l.numbers
