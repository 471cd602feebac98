use Rattle.std.proofs.Common.{subst}
use Rattle.yw_library.specs.Holdings.{Holdings}
use Rattle.yw_office.proofs.Keeping.{not_done, noted}
use Rattle.yw_office.proofs.office.decide_noting.Goals as goal
use Rattle.yw_tree.specs.declared.Forest.{Forest}
use Rattle.yw_worklist.specs.Touched.{Notes}

pub returns-in_ok-note-in-Ok : goal.returns-in_ok-note-in-Ok
returns-in_ok-note-in-Ok c =
    let new = c.decide.new.self in
    let lists = c.args.lists.now in
    let now = c.note.new.self in
    let d = c.in-Ok.decided in
    let notes = subst (λ (k : Holdings). Notes k new.standing.forest d.events lists now) c.known.ensures
    (subst (λ (f : Forest). Notes c.known.result.now f d.events lists now) c.forest.ensures c.in_ok-note-in-Ok.ensures) in
    noted c.args.engine.now new lists c.args.command c.requires.kept now d c.is_well.ensures c.in-Ok.ensures.legal c.in-Ok.ensures.built
    c.in-Ok.ensures.spent.1 (record { held = c.is_held.ensures; plain = c.is_plain.ensures }) notes

pub returns-in-Err : goal.returns-in-Err
returns-in-Err c =
    not_done c.args.engine.now c.decide.new.self c.args.lists.now c.args.command c.requires.kept c.in-Err.fault c.in-Err.ensures.refused
    c.in-Err.ensures.spent
