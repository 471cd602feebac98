use Rattle.std.proofs.Common.{map, take}
use Rattle.yw_library.specs.Holdings.{person_name}
use Rattle.yw_worklist.proofs.people.People.ask_all.Given as goal
use Rattle.yw_worklist.specs.People.{Asks}

abbrev pub invariant-loop-person : goal.invariant-loop-person
invariant-loop-person l = Asks l.known l.fn.self l.self (map person_name (take l.person-index l.persons))
