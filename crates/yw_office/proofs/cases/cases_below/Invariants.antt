use Rattle.yw_office.proofs.cases.cases_below.Given as goal
use Rattle.yw_office.specs.Cases.{HasCases}

abbrev pub invariant-loop-n : goal.invariant-loop-n
invariant-loop-n l = HasCases l.forest l.n l.cases.items
