use Rattle.std.proofs.Common.{ap}
use Rattle.std.specs.Prelude.{not}
use Rattle.yw_deeds.proofs.calm.is_calm.Goals as goal
use Rattle.yw_standing.specs.State.{state_of}
use Rattle.yw_library.specs.Names.{names_of}

pub returns : goal.returns
returns c = ap not (c.is_urgent.ensures (names_of c.args.standing.now.known) (state_of c.args.standing.now) c.requires.boxed c.requires.sites)
