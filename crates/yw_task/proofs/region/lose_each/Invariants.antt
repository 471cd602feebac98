use Rattle.std.proofs.Common.{take}
use Rattle.std.specs.Prelude.{fold}
use Rattle.yw_state.specs.After.{without_items}
use Rattle.yw_task.proofs.region.lose_each.Given as goal
use Rattle.yw_task.specs.Turning.{Turns}
use Rattle.yw_tree.specs.Boxed.{IsBoxedNet}

abbrev pub invariant-loop-t : goal.invariant-loop-t
invariant-loop-t l = IsBoxedNet l.state × Turns l.fn.state l.state (λ i s. fold (without_items i) s (take l.t-index l.tasks))
