use Rattle.yw_accept.proofs.FactsLemmas.{is_named}
use Rattle.yw_check_sorts.proofs.parameters.parameters_agree.Goals as goal

pub check_nets-requires : goal.check_nets-requires
check_nets-requires c = is_named c.args.raw.now c.requires.names
