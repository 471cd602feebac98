use Rattle.std.proofs.Common.{ap, ◌∙◌}
use Rattle.yw_urgent.proofs.Lent.{exlet_there, left_fits}
use Rattle.yw_urgent.proofs.judged.check_event.Goals as goal
use Rattle.yw_urgent.specs.Urgent.{where_left}

pub exlet_event-requires : goal.exlet_event-requires
exlet_event-requires c =
    let h = c.args.standing.now in
    left_fits h c.requires.held c.args.at.now c.args.check c.node_left-node.result (c.node_left-node.ensures ∙ ap (where_left h.next) c.judge-found.ensures)

pub returns : goal.returns
returns c =
    let h = c.args.standing.now in
    exlet_there h c.requires.held c.args.at.now c.args.check c.requires.next c.requires.other c.node_left-node.result
    (c.node_left-node.ensures ∙ ap (where_left h.next) c.judge-found.ensures) c.in_ok-at.at c.in_ok-at.ensures c.exlet_event.result c.exlet_event.ensures
