use Rattle.std.proofs.Common.{All, List, sym, subst}
use Rattle.yw_read.specs.declared.raw.RawNet.{RawNet}
use Rattle.yw_accept.specs.Facts.{NetIsNamed, NetLeads}
use Rattle.yw_accept.proofs.FactsLemmas.{is_named, nets_lead}
use Rattle.yw_check_graph.proofs.joins.or_joins_fit.Goals as goal

pub joins_in-requires-clause-named : goal.joins_in-requires-clause-named
joins_in-requires-clause-named c =
    let P : List RawNet → Type 0 = λ nets. All NetIsNamed nets in
    subst P (sym c.as_slice.ensures) (is_named c.args.raw.now c.requires.names).nets

pub joins_in-requires-clause-lead : goal.joins_in-requires-clause-lead
joins_in-requires-clause-lead c =
    let P : List RawNet → Type 0 = λ nets. All NetLeads nets in
    subst P (sym c.as_slice.ensures) (nets_lead c.args.raw.now c.requires.flows)
