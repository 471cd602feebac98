use Rattle.std.proofs.Common.{length, ◌-◌, ◌≡◌, ◌≤◌, drop}
use Rattle.yw_states.specs.Ascending.{ascend}
use Rattle.yw_states.proofs.ascending.do_ascend.Given as goal

abbrev pub invariant-loop-i : goal.invariant-loop-i
invariant-loop-i g l =
    record {
      some : 1 ≤ l.i;
      so_far : ascend g.T.Keyed.before l.rows ≡ ascend g.T.Keyed.before (drop (l.i - 1) l.rows);
    }

abbrev pub decreases-loop-i : goal.decreases-loop-i
decreases-loop-i g l = length l.rows - l.i
