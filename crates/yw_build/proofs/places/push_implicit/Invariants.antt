use Rattle.std.proofs.Common.{◌≡◌, ◌++◌, take, map}
use Rattle.std.specs.Prelude.{filter}
use Rattle.yw_accept.specs.Built.{place_of}
use Rattle.yw_accept.specs.Nodes.{is_implicit}
use Rattle.yw_build.proofs.places.push_implicit.Given as goal

abbrev pub invariant-loop-flow : goal.invariant-loop-flow
invariant-loop-flow l = l.places ≡ l.fn.places ++ map (place_of l.net) (filter (is_implicit l.net) (take l.flow-index l.net.flows))
