use Rattle.std.proofs.Common.{sym, ◌∙◌}
use Rattle.yw_enabled.proofs.Results.{ok_then}
use Rattle.yw_library.specs.Names.{names_of}
use Rattle.yw_walk.proofs.AllRest.{at_there, free_there, parked_there}
use Rattle.yw_walk.proofs.identity.event_at.Goals as goal

pub returns-then-is_held : goal.returns-then-is_held
returns-then-is_held c = λ tells s w.
    let known = c.args.known.now in
    parked_there known c.args.forest.now c.args.next c.args.id.now s w
    (sym (c.is_held.ensures (names_of known) s w.held.boxed w.held.sites) ∙ c.if-is_held.true)

pub returns-in-Some : goal.returns-in-Some
returns-in-Some c = λ tells s w.
    let known = c.args.known.now in
    let f = c.args.forest.now in
    let j = c.args.id.now in
    let none = sym (c.is_held.ensures (names_of known) s w.held.boxed w.held.sites) ∙ c.if-is_held.false in
    c.in-Some.ensures known s w.held (free_there known f c.args.next j s w none).free
    (c.is_at_end.ensures known f j (c.net_at-here.ensures.here c.item_here-item.ensures) s w.held)

pub returns-in-None : goal.returns-in-None
returns-in-None c = λ tells.
    let known = c.args.known.now in
    let f = c.args.forest.now in
    let j = c.args.id.now in
    let stands = c.net_at-here.ensures.here c.item_here-item.ensures in
    ok_then c.item_or_tasks_at.result _ _ (c.item_or_tasks_at.ensures known f c.item_here-item.ensures stands tells)
    (λ found below. at_there known f j c.args.next c.is_at_end.result (c.is_at_end.ensures known f j stands)
    (λ s h. sym (c.is_held.ensures (names_of known) s h.boxed h.sites) ∙ c.if-is_held.false) (c.in-None.ensures known) found below)
