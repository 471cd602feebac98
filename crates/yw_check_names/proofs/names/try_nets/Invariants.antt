use Rattle.yw_accept.specs.Names.{NetNames}
use Rattle.yw_check_names.specs.Tried.{KnowsNets}
use Rattle.yw_check_names.proofs.Trying.{TriedSoFar}
use Rattle.yw_check_names.proofs.names.try_nets.Given as goal

abbrev pub invariant-loop-net : goal.invariant-loop-net
invariant-loop-net l = TriedSoFar KnowsNets NetNames l.initial.seen l.seen l.nets l.net-index
