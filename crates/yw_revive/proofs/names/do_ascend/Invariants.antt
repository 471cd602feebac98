use Rattle.std.proofs.Common.{length, ◌-◌, ◌≡◌, ◌≤◌, drop}
use Rattle.yw_revive.proofs.names.do_ascend.Given as goal
use Rattle.yw_revive.specs.Names.{spec_before}
use Rattle.yw_states.specs.Ascending.{ascend}

abbrev pub invariant-loop-i : goal.invariant-loop-i
invariant-loop-i l =
    record {
      some : 1 ≤ l.i;
      so_far : ascend spec_before l.specs ≡ ascend spec_before (drop (l.i - 1) l.specs);
    }

abbrev pub decreases-loop-i : goal.decreases-loop-i
decreases-loop-i l = length l.specs - l.i
