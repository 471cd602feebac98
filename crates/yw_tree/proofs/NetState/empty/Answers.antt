use Rattle.std.proofs.Common.{arith, length, subst, ◌≡◌}
use Rattle.yw_tree.specs.Begins.{BeginsNet}
use Rattle.yw_tree.specs.declared.NetState.{NetState, NetState-F, roll-NetState}
use Rattle.yw_tree.specs.declared.Node.{Node}
use Rattle.yw_tree.specs.declared.Run.{Run}
use Rattle.yw_tree.proofs.EmptyNet.{empty_begins}
use Rattle.yw_tree.proofs.NetState.empty.Goals as goal

pub returns : goal.returns
returns c =
    let l : NetState-F NetState Node Run = record { spec = c.args.spec; net = c.args.net; marks = c.args.marks; vals = c.args.vals; items = c.loop.items } in
    let all : length c.loop.items.items ≡ c.args.tasks = omega arith in
    subst (λ k. BeginsNet c.args.spec c.args.net c.args.marks c.args.vals k (roll-NetState l)) all (empty_begins l c.loop.invariant.empty)
