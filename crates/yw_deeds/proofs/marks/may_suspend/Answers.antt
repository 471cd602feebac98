use Rattle.std.proofs.Common.{ap, sym, ◌∙◌}
use Rattle.std.specs.Prelude.{not}
use Rattle.yw_deeds.proofs.MarksGo.{tells_suspend}
use Rattle.yw_deeds.proofs.marks.may_suspend.Goals as goal
use Rattle.yw_state.specs.Options.{is_some_and}

pub returns : goal.returns
returns c =
    tells_suspend c.args.standing.now c.requires c.args.j.now c.numbers.ensures.identity c.is_unmarked.result
    (ap (λ o. is_some_and o not) (sym c.mark_at.ensures) ∙ sym c.is_unmarked.ensures)
