use Rattle.std.proofs.Common.{Some, refl, sym, ◌≡◌}
use Rattle.yw_base.proofs.Parents.{identity_long}
use Rattle.yw_steps.proofs.exiting.leave.Goals as goal
use Rattle.yw_tree.proofs.NetAt.{net_here}
use Rattle.yw_tree.specs.Places.{net_at}

pub exit-requires-clause-boxed : goal.exit-requires-clause-boxed
exit-requires-clause-boxed c =
    let f = c.args.forest.now in
    let i = c.args.at.now in
    let found : net_at f i ≡ Some c.in-Some.state.now = sym (rw c.in-Some.is at c.net_mut.ensures.value) in
    (net_here f i c.in-Some.state.now c.requires.boxed (identity_long i c.net_mut.ensures.identity) found).boxed

pub exit-requires-clause-outcome : goal.exit-requires-clause-outcome
exit-requires-clause-outcome c = c.requires.outcome c.in-Some.state.now (sym (rw c.in-Some.is at c.net_mut.ensures.value))

pub returns-clause-leaves : goal.returns-clause-leaves
returns-clause-leaves c = record {
  before = c.in-Some.state.now;
  later = c.exit.new.state;
  found = sym (rw c.in-Some.is at c.net_mut.ensures.value);
  placed = refl;
  exits = c.exit.ensures.exits;
}
