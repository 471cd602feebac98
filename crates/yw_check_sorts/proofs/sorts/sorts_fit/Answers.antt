use Rattle.std.proofs.Common.{sym, subst, All}
use Rattle.yw_accept.specs.Facts.{NetIsNamed}
use Rattle.yw_accept.proofs.FactsLemmas.{is_named}
use Rattle.yw_check_sorts.proofs.sorts.sorts_fit.Goals as goal

pub check_nets-requires : goal.check_nets-requires
check_nets-requires c = subst (All NetIsNamed) (sym c.as_slice.ensures) (is_named c.args.raw.now c.requires.names).nets
