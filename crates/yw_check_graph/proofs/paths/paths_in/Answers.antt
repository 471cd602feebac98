use Rattle.std.proofs.Common.{sym, subst}
use Rattle.yw_accept.specs.Facts.{NetIsNamed, NetLeads}
use Rattle.yw_check_graph.proofs.paths.paths_in.Goals as goal

pub paths_of-requires-clause-named : goal.paths_of-requires-clause-named
paths_of-requires-clause-named c = subst NetIsNamed (sym c.net-item.is) (c.requires.named c.loop-net.net-index c.net-item.result c.loop-net-test.true)

pub paths_of-requires-clause-leads : goal.paths_of-requires-clause-leads
paths_of-requires-clause-leads c = subst NetLeads (sym c.net-item.is) (c.requires.lead c.loop-net.net-index c.net-item.result c.loop-net-test.true)
