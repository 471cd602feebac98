use Rattle.std.proofs.Common.{◌≡◌, ◌++◌, take, map}
use Rattle.yw_spec.specs.declared.spec.Place.TheVariants as places
use Rattle.yw_build.proofs.places.push_conditions.Given as goal

abbrev pub invariant-loop-name : goal.invariant-loop-name
invariant-loop-name l = l.places ≡ l.fn.places ++ map places.Named (take l.name-index l.conditions)
