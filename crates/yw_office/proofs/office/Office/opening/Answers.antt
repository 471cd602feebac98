use Rattle.std.proofs.Common.{subst, sym}
use Rattle.yw_office.proofs.office.Office.opening.Goals as goal
use Rattle.yw_state.specs.State.{State}
use Rattle.yw_worklist.specs.Lists.{IsListed}

pub invariant_of-result : goal.invariant_of-result
invariant_of-result c = λ fresh. record {
  fresh = c.opening-engine.ensures.fresh;
  listed = subst (λ (s : State). IsListed s c.opening-lists.result) (sym c.opening-engine.ensures.state) c.opening-lists.ensures;
}
