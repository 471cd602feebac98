use Rattle.std.proofs.Common.{subst}
use Rattle.yw_library.proofs.library.Library.trees.Goals as goal
use Rattle.yw_library.specs.Holdings.{Holdings}
use Rattle.yw_trees.specs.Placed.{AllOwned}

pub returns-clause-owned : goal.returns-clause-owned
returns-clause-owned c = record {
  apart = c.are_apart.ensures;
  owned = subst (λ (h : Holdings). AllOwned h.specs h.rules) c.self.view_is c.self.invariant.owned;
}
