use Rattle.std.proofs.Common.{ap, sym, ◌∙◌}
use Rattle.std.specs.Prelude.{if◌then◌else◌}
use Rattle.yw_deeds.proofs.exlets.cannot_begin.Goals as goal
use Rattle.yw_standing.specs.State.{state_of}
use Rattle.yw_state.specs.Allowed.{is_too_deep, none_is_left}

pub returns-then-is_select : goal.returns-then-is_select
returns-then-is_select c =
    c.is_too_deep.ensures
    ∙ sym (ap (λ b. if b then is_too_deep c.args.at.now else none_is_left (state_of c.args.standing.now)) (sym c.is_select.ensures ∙ c.if-is_select.true))

pub returns : goal.returns
returns c =
    c.none_is_left.ensures
    ∙ sym (ap (λ b. if b then is_too_deep c.args.at.now else none_is_left (state_of c.args.standing.now)) (sym c.is_select.ensures ∙ c.if-is_select.false))
