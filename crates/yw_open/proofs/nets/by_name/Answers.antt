use Rattle.std.proofs.Common.{rules, subst, sym}
use Rattle.std.proofs.lemmas.Fn.{always_returns_same}
use Rattle.std.proofs.lemmas.List.Sorted.{ranks_by}
use Rattle.std.specs.List.Sorted.{IsSortedBy}
use Rattle.yw_open.proofs.nets.by_name.Goals as goal
use Rattle.yw_open.specs.Entries.{name_of}
use Rattle.yw_open.specs.Opens.{name_before}
use Rattle.yw_state.proofs.MapLemmas.{by_name}

pub returns-clause-sorted : goal.returns-clause-sorted
returns-clause-sorted c =
    subst (IsSortedBy name_before) (sym c.from_vec.ensures)
    (c.sort_unstable_by.ensures.sorted name_before (ranks_by by_name.total name_of) (always_returns_same _ _ _ (λ a r f k. search rules)))
