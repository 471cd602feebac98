use Rattle.yw_accept.specs.Facts.{NetIsNamed}
use Rattle.yw_accept.proofs.Lists.{at_element}
use Rattle.yw_check_sorts.proofs.parameters.check_nets.Goals as goal

pub check_net-requires-clause-net : goal.check_net-requires-clause-net
check_net-requires-clause-net c =
    at_element NetIsNamed c.args.raw.now.net c.as_slice-net-items.result.now c.as_slice-net-items.ensures c.loop-net.net-index c.net-item.result c.loop-net-test.true c.net-item.is c.requires.nets
