use Rattle.std.proofs.Common.{sym}
use Rattle.yw_standing.specs.State.{state_of}
use Rattle.yw_state.specs.declared.tree.TreeKind.TheVariants.{Select}
use Rattle.yw_urgent.proofs.Coming.{choice_begins, choice_ends}
use Rattle.yw_urgent.proofs.Lent.{passed, substituted}
use Rattle.yw_urgent.proofs.judged.choice_event.Goals as goal

pub returns-in_ok-copy-in-Some-2 : goal.returns-in_ok-copy-in-Some-2
returns-in_ok-copy-in-Some-2 c =
    let s = state_of c.args.standing.now in
    let j = c.args.at.now in
    substituted s j c.in-Some.worklet.now c.in_ok-copy-in-Some-2.field-0 c.in_ok-copy-in-Some.field-0 c.in_ok-copy-in-Some.ensures c.in_ok-copy-in-Some-2.ensures
    (choice_begins s j c.requires.next c.in-Some.worklet.now (sym c.in-Some.ensures))

pub returns-in_ok-copy-in-None : goal.returns-in_ok-copy-in-None
returns-in_ok-copy-in-None c =
    let s = state_of c.args.standing.now in
    let j = c.args.at.now in
    passed s j Select c.in_ok-copy-in-None.field-0 c.in_ok-copy-in-None.ensures (choice_ends s j c.requires.next c.requires.held.well (sym c.in-None.ensures))
