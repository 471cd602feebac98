use Rattle.std.proofs.Common.{rules}
use Rattle.yw_library.specs.Holdings.{with_library}
use Rattle.yw_library.proofs.library.Library.new.Goals as goal

pub returns-clause-state : goal.returns-clause-state
unfolding with_library
returns-clause-state c = search rules
