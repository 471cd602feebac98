use Rattle.std.proofs.Common.{sym, subst}
use Rattle.yw_accept.specs.Facts.{NetIsNamed}
use Rattle.yw_check_sorts.proofs.sorts.check_nets.Goals as goal

pub check_net-requires : goal.check_net-requires
check_net-requires c = subst NetIsNamed (sym c.net-item.is) (c.requires c.loop-net.net-index c.net-item.result c.loop-net-test.true)
