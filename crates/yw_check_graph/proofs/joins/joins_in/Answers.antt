use Rattle.std.proofs.Common.{sym, subst}
use Rattle.yw_accept.specs.Facts.{NetIsNamed, NetLeads}
use Rattle.yw_check_graph.proofs.joins.joins_in.Goals as goal

pub joins_of-requires-clause-named : goal.joins_of-requires-clause-named
joins_of-requires-clause-named c = subst NetIsNamed (sym c.net-item.is) (c.requires.named c.loop-net.net-index c.net-item.result c.loop-net-test.true)

pub joins_of-requires-clause-leads : goal.joins_of-requires-clause-leads
joins_of-requires-clause-leads c = subst NetLeads (sym c.net-item.is) (c.requires.lead c.loop-net.net-index c.net-item.result c.loop-net-test.true)
