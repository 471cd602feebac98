use Rattle.std.proofs.Common.{map}
use Rattle.std.specs.List.{list_any, range_with_len}
use Rattle.yw_loose.proofs.loose.Loose.add_items.Given as goal
use Rattle.yw_loose.specs.Loose.{Loosens}
use Rattle.yw_state.specs.Identity.{same}
use Rattle.yw_base.specs.Identity.{child}

abbrev pub invariant-loop-k : goal.invariant-loop-k
invariant-loop-k l = Loosens l.fn.self l.self (λ j. list_any (same j) (map (child l.net) (range_with_len l.first l.k)))
