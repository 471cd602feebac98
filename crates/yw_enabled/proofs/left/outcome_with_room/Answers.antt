use Rattle.std.proofs.Common.{ap, sym, ◌∙◌}
use Rattle.std.specs.List.{list_all}
use Rattle.yw_enabled.proofs.left.outcome_with_room.Goals as goal
use Rattle.yw_enabled.specs.Left.{has_room}
use Rattle.yw_tree.specs.declared.NetState.{out-NetState}

pub returns-then-have_room : goal.returns-then-have_room
returns-then-have_room c =
    let is = c.in_ok-outcome.ensures in
    let room = list_all (has_room (out-NetState c.args.state.now).marks c.args.task.now) in
    record { outcome = is; room = ap room (sym (c.as_slice.ensures ∙ is.places)) ∙ sym c.have_room.ensures ∙ c.if-have_room.true }

pub returns : goal.returns
returns c =
    let is = c.in_ok-outcome.ensures in
    let room = list_all (has_room (out-NetState c.args.state.now).marks c.args.task.now) in
    ap room (sym (c.as_slice.ensures ∙ is.places)) ∙ sym c.have_room.ensures ∙ c.if-have_room.false
