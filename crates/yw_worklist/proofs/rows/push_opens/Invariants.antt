use Rattle.std.proofs.Common.{◌≡◌, ◌++◌, take}
use Rattle.yw_worklist.proofs.rows.push_opens.Given as goal
use Rattle.yw_worklist.specs.Rows.{admitted}

abbrev pub invariant-loop-work : goal.invariant-loop-work
invariant-loop-work l = l.rows ≡ l.fn.rows ++ admitted l.roles l.who l.at (take l.work-index l.opens)
