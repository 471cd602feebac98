use Rattle.yw_given.specs.Found.{is_given_as}
use Rattle.yw_given.proofs.Finding.{FindsFrom}
use Rattle.yw_given.proofs.numbers.number_given.Given as goal

abbrev pub invariant-loop-i : goal.invariant-loop-i
invariant-loop-i l = FindsFrom is_given_as l.given l.i l.numbers
