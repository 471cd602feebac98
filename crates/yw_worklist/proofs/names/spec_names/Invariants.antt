use Rattle.std.proofs.Common.{◌≡◌, ◌++◌}
use Rattle.yw_worklist.proofs.names.spec_names.Given as goal
use Rattle.yw_worklist.specs.Names.{names_in}

-- those so far, and what is left
abbrev pub invariant-loop-name : goal.invariant-loop-name
invariant-loop-name l = l.names ++ names_in l.name-iterator ≡ names_in l.initial.name-iterator
