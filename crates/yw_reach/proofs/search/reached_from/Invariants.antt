use Rattle.std.proofs.Common.{◌+◌, length}
use Rattle.yw_reach.specs.Search.{unmarked}
use Rattle.yw_reach.proofs.SearchLemmas.{Searching}
use Rattle.yw_reach.proofs.search.reached_from.Given as goal

abbrev pub invariant-pending : goal.invariant-pending
invariant-pending l = Searching l.flows l.fn.starts l.search.marks l.search.pending.items

abbrev pub decreases-pending : goal.decreases-pending
decreases-pending l = length l.search.pending.items + unmarked l.search.marks
