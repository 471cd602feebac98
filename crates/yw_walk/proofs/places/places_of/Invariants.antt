use Rattle.std.proofs.Common.{take, ◌≡◌}
use Rattle.yw_walk.proofs.places.places_of.Given as goal
use Rattle.yw_walk.specs.Places.{places_numbered}

abbrev pub invariant-loop-c : goal.invariant-loop-c
invariant-loop-c l = l.places ≡ places_numbered l.net (take l.c-index l.numbers)
