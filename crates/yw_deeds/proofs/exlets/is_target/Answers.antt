use Rattle.std.proofs.Common.{ap, sym, ◌∙◌}
use Rattle.std.specs.Prelude.{is_some}
use Rattle.yw_deeds.proofs.MarksGo.{target_is}
use Rattle.yw_deeds.proofs.exlets.is_target.Goals as goal
use Rattle.yw_standing.specs.State.{state_of}
use Rattle.yw_library.specs.Names.{names_of}

pub returns : goal.returns
returns c =
    let h = c.args.standing.now in
    c.is_some.ensures ∙ ap is_some c.mark_at.ensures
    ∙ sym (target_is (names_of h.known) h.forest c.requires.boxed c.args.at.now c.numbers.ensures.identity (state_of h) c.requires.sites)
