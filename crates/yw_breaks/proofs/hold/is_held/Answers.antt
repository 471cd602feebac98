use Rattle.yw_breaks.proofs.hold.is_held.Goals as goal
use Rattle.yw_library.specs.Names.{names_of}

pub returns : goal.returns
returns c = λ known s h. c.is_held.ensures (names_of known) s h.boxed h.sites
