use Rattle.std.proofs.Common.{subst}
use Rattle.yw_known.proofs.Rows as rows
use Rattle.yw_known.proofs.known.Known.are_named.Goals as goal
use Rattle.yw_library.specs.Holdings.{AreNamed}

pub returns : goal.returns
returns c = subst AreNamed c.self.view_is (rows.are_named c.self.inside.library c.self.inside.rows c.self.invariant)
