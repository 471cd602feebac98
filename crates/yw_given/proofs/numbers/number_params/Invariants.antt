use Rattle.yw_given.specs.Found.{is_called}
use Rattle.yw_given.proofs.Finding.{FindsFrom}
use Rattle.yw_given.proofs.numbers.number_params.Given as goal

abbrev pub invariant-loop-i : goal.invariant-loop-i
invariant-loop-i l = FindsFrom is_called l.params l.i l.numbers
