use Rattle.std.proofs.Common.{length, ◌++◌, ◌+◌, ◌≡◌}
use Rattle.std.specs.Vec.Iter.{into_iter_items, into_iter_len}
use Rattle.yw_task.proofs.coming.put_items.Given as goal
use Rattle.yw_task.specs.Items.{AreBefore, GetsItems, row_of}
use Rattle.yw_tree.specs.Boxed.{IsBoxedNet}
use Rattle.yw_tree.specs.declared.NetState.{out-NetState}

abbrev pub invariant-loop-given : goal.invariant-loop-given
invariant-loop-given l = record {
  all : l.yielded ++ into_iter_items l.given-iterator ≡ into_iter_items l.initial.given-iterator;
  left : into_iter_len l.given-iterator ≡ length (into_iter_items l.given-iterator);
  number : l.first + length l.yielded ≡ l.number;
  boxed : IsBoxedNet l.state;
  lists : length (out-NetState l.state).items.items ≡ length (out-NetState l.initial.state).items.items;
  before : AreBefore l.at l.number (row_of l.state l.t);
  got : GetsItems l.at l.t l.due l.first l.yielded l.initial.state l.state;
}
