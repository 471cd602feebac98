use Rattle.yw_accept.proofs.ReadyLemmas.{is_ready}
use Rattle.yw_build.proofs.spec_of.Goals as goal

pub spec_of_ready-requires : goal.spec_of_ready-requires
spec_of_ready-requires c = is_ready c.args.raw.now c.requires
