use Rattle.std.proofs.Common.{ap, ◌∙◌}
use Rattle.yw_deeds.proofs.exlets.comes_first.Goals as goal
use Rattle.yw_standing.specs.State.{state_of}
use Rattle.yw_library.specs.Names.{names_of}
use Rattle.yw_state.specs.Words.{is_first_due}

pub returns : goal.returns
returns c =
    let h = c.args.standing.now in
    c.is_first_due.ensures ∙ ap (λ d. is_first_due d c.args.check) (c.due_at.ensures (names_of h.known) (state_of h) c.requires.boxed c.requires.sites)
