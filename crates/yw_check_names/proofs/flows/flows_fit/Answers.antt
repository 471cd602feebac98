use Rattle.std.proofs.Common.{List, All, sym, subst}
use Rattle.yw_read.specs.declared.raw.RawNet.{RawNet}
use Rattle.yw_accept.specs.Facts.{NetIsNamed}
use Rattle.yw_accept.proofs.FactsLemmas.{is_named}
use Rattle.yw_check_names.proofs.flows.flows_fit.Goals as goal

pub check_nets-requires : goal.check_nets-requires
check_nets-requires c =
    let P : List RawNet → Type 0 = λ nets. All NetIsNamed nets in
    subst P (sym c.as_slice.ensures) (is_named c.args.raw.now c.requires.names).nets
