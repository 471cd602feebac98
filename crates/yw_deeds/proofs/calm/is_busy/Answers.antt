use Rattle.yw_deeds.proofs.calm.is_busy.Goals as goal
use Rattle.yw_standing.specs.State.{state_of}
use Rattle.yw_library.specs.Names.{names_of}

pub returns : goal.returns
returns c = c.is_busy.ensures.busy (names_of c.args.standing.now.known) (state_of c.args.standing.now) c.requires.boxed c.requires.sites
