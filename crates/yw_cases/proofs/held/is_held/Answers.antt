use Rattle.yw_cases.proofs.held.is_held.Goals as goal
use Rattle.yw_library.specs.Names.{names_of}
use Rattle.yw_standing.specs.State.{state_of}

pub returns : goal.returns
returns c = c.is_held.ensures (names_of c.args.standing.now.known) (state_of c.args.standing.now) c.requires.held.boxed c.requires.held.sites
