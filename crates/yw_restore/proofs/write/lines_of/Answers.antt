use Rattle.std.proofs.Common.{◌∙◌, ap, map, sym}
use Rattle.yw_library.specs.Holdings.{with_library}
use Rattle.yw_restore.proofs.Opening.{ended_drawn}
use Rattle.yw_restore.proofs.StateBytes.{rows_are}
use Rattle.yw_restore.proofs.write.lines_of.Goals as goal
use Rattle.yw_restore.specs.declared.write.StateLines.{StateLines}
use Rattle.yw_state.specs.Map.{entries}
use Rattle.yw_states.specs.States.{ended_row}

pub returns : goal.returns
returns c = λ s is.
    let library = is.held.library ∙ ap (with_library s) (sym c.library-library.ensures) in
    let kept = c.args.kept.now in
    let lines : StateLines = record {
      next = kept.next;
      persons = c.in_ok-persons.persons;
      texts = c.in_ok-texts.texts;
      trees = kept.trees;
      cases = c.in_ok-cases.cases;
      ended = c.in_ok-ended.ended;
    } in
    rows_are s lines (sym is.next) (c.in_ok-persons.ensures s library) (c.in_ok-texts.ensures s library) (sym is.trees)
    (c.in_ok-cases.ensures s is.held is.next)
    (c.in_ok-ended.ensures (ended_drawn c.args.kept.now s is) ∙ ap (λ m. map ended_row (entries m)) (sym is.ended))
