use Rattle.std.proofs.Common.{subst}
use Rattle.std.specs.List.{filter_map}
use Rattle.yw_tree.proofs.OnResults.{on_ok}
use Rattle.yw_worklist.proofs.Noting.{noted}
use Rattle.yw_worklist.proofs.lists.Lists.note.Goals as goal
use Rattle.yw_worklist.specs.People.{Asks, person_of}
use Rattle.yw_worklist.specs.Touched.{HasTouched}

pub returns : goal.returns
returns c =
    let known = c.args.known.now in
    let old = c.args.self.now in
    let mid = c.look_all.new.self in
    let people = c.ask_events.new.self in
    let ids = c.in_ok-ids.ids in
    on_ok c.ask_events.result _ _ c.ask_events.ensures
    (λ asks. noted known c.args.forest.now c.args.events.now old mid people ids c.untouched_stays_right.ensures
    (subst (λ es. HasTouched old.places c.args.forest.now es ids) c.as_slice-events.ensures c.in_ok-ids.ensures) c.in_ok-look_all.ensures
    (subst (λ es. Asks known mid.people people (filter_map person_of es)) c.as_slice-events.ensures asks))
