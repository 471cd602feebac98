use Rattle.std.proofs.Common.{All, take}
use Rattle.yw_check_sorts.specs.Agreeing.{ItemFitsOver}
use Rattle.yw_check_sorts.proofs.parameters.items_fit.Given as goal

abbrev pub invariant-loop-input : goal.invariant-loop-input
invariant-loop-input l = All (ItemFitsOver l.scope l.task) (take l.input-index l.ins)
