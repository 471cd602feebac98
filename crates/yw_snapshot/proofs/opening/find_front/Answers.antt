use Rattle.std.proofs.Common.{None, IsTrue, sym, ◌∙◌, subst}
use Rattle.yw_outside.specs.declared.image.Image.{Image}
use Rattle.yw_journal.specs.Files.{NoneIsLive}
use Rattle.yw_snapshot.specs.Heads.{IsChoice}
use Rattle.yw_snapshot.specs.Opening.{IsFoundIn}
use Rattle.yw_snapshot.specs.declared.opening.Front.{Front}
use Rattle.yw_snapshot.proofs.FoundLaws.{none_is_live}
use Rattle.yw_snapshot.proofs.Looks.{if_ok_map, looks_leave, looks_then}
use Rattle.yw_snapshot.proofs.opening.find_front.Goals as goal

pub begin-requires-clause-none : goal.begin-requires-clause-none
begin-requires-clause-none g c = λ tells.
    let i = g.D.Desk.state c.args.desk.now in
    let looked = c.in_ok-chosen.ensures.looked in
    let is : IsChoice i None = subst (IsChoice i) c.in-None.is (c.in_ok-chosen.ensures.chosen (sym looked.telling ∙ tells)) in
    subst NoneIsLive (sym looked.same) (none_is_live i is.0)

pub returns-in-Some-front_of-clause-any_moment : goal.returns-in-Some-front_of-clause-any_moment
returns-in-Some-front_of-clause-any_moment g c = λ tells.
    looks_leave g.D.Desk c.args.desk.now c.choose.new.desk (g.met.D.Desk.said_by_now c.args.desk.now) c.in_ok-chosen.ensures.looked (c.requires.settled tells)

pub returns-in-None-front_of-clause-any_moment : goal.returns-in-None-front_of-clause-any_moment
returns-in-None-front_of-clause-any_moment g c = λ tells.
    looks_leave g.D.Desk c.args.desk.now c.choose.new.desk (g.met.D.Desk.said_by_now c.args.desk.now) c.in_ok-chosen.ensures.looked (c.requires.settled tells)

pub returns-in-None-clause-front : goal.returns-in-None-clause-front
returns-in-None-clause-front g c =
    let D = g.D.Desk in
    let mid = D.state c.choose.new.desk in
    let new = D.state c.begin.new.desk in
    let looked = c.in_ok-chosen.ensures.looked in
    if_ok_map c.begin.result (λ (front : Front). IsTrue (D.tells c.choose.new.desk) → IsFoundIn front mid new)
    (λ (front : Front). IsTrue (D.tells c.args.desk.now) → IsFoundIn front (D.state c.args.desk.now) new)
    (λ front found tells. subst (λ (i : Image). IsFoundIn front i new) looked.same (found (looked.telling ∙ tells)))
    c.begin.ensures.front

pub returns-in-None-clause-any_moment : goal.returns-in-None-clause-any_moment
returns-in-None-clause-any_moment g c = λ tells.
    let looked = c.in_ok-chosen.ensures.looked in
    looks_then g.D.Desk c.args.desk.now c.choose.new.desk c.begin.new.desk (g.met.D.Desk.said_by_now c.args.desk.now) looked (c.requires.settled tells)
    (c.begin.ensures.any_moment (looked.telling ∙ tells))
