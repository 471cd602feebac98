use Rattle.std.proofs.Common.{ap, sym, ◌∙◌}
use Rattle.yw_deeds.proofs.MarksGo.{tells_continue}
use Rattle.yw_deeds.proofs.marks.may_continue.Goals as goal
use Rattle.yw_state.specs.Options.{is_some_and}

pub returns : goal.returns
returns c =
    tells_continue c.args.standing.now c.requires c.args.j.now c.numbers.ensures.identity c.is_marked.result
    (ap (λ o. is_some_and o (λ b. b)) (sym c.mark_at.ensures) ∙ sym c.is_marked.ensures)
