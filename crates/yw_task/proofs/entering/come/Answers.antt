use Rattle.std.proofs.Common.{List, ap, length, refl, subst, sym, ◌+◌, ◌≤◌}
use Rattle.yw_base.specs.Identity.{number_end}
use Rattle.yw_state.specs.Values.{Row}
use Rattle.yw_task.proofs.EnterLaw.{enters, none_before}
use Rattle.yw_task.proofs.OwnPart.{still_boxed}
use Rattle.yw_task.proofs.entering.come.Goals as goal
use Rattle.yw_tree.proofs.Removed.{within}
use Rattle.yw_tree.specs.declared.NetState.{NetState, NetState-F}
use Rattle.yw_tree.specs.declared.Node.{Node}
use Rattle.yw_tree.specs.declared.Run.{Run}

pub take_tokens-requires : goal.take_tokens-requires
take_tokens-requires c = let m = c.requires.may in within c.args.net.now.tasks c.args.t m.task m.of_net

pub add_items-requires-clause-boxed : goal.add_items-requires-clause-boxed
add_items-requires-clause-boxed c =
    still_boxed c.args.state.now c.take_tokens.new.state (ap (λ (l : NetState-F NetState Node Run). l.items) c.take_tokens.ensures) c.requires.boxed

pub add_items-requires-clause-numbers : goal.add_items-requires-clause-numbers
add_items-requires-clause-numbers c =
    let m = c.requires.may in
    subst (λ (rows : List Row). c.args.first + length rows ≤ number_end) (sym (c.requires.rows m.task m.of_net)) m.numbers

pub add_items-requires-clause-before : goal.add_items-requires-clause-before
add_items-requires-clause-before c =
    let m = c.requires.may in
    none_before c.args.state.now c.take_tokens.new.state c.args.at.now c.args.first c.args.t (ap (λ (l : NetState-F NetState Node Run). l.items) c.take_tokens.ensures) m.idle

pub returns : goal.returns
returns c =
    let m = c.requires.may in
    enters c.args.net.now c.args.state.now c.take_tokens.new.state c.add_items.new.state c.args.at.now c.args.t m.task m.of_net c.args.taken c.args.first c.args.due
    c.args.rows.items (length c.args.rows.items) c.requires.boxed c.take_tokens.ensures (c.requires.rows m.task m.of_net) refl c.in_ok-add_items.ensures
