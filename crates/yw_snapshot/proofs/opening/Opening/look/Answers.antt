use Rattle.std.proofs.Common.{sym, ◌∙◌, subst}
use Rattle.yw_outside.specs.Image.{file_in}
use Rattle.yw_outside.specs.declared.image.Image.{Image}
use Rattle.yw_snapshot.specs.Window.{Shows}
use Rattle.yw_snapshot.proofs.Standing.{stands_with}
use Rattle.yw_snapshot.proofs.opening.Opening.look.Goals as goal

pub returns-in_ok-reach-in-Open-clause-stands : goal.returns-in_ok-reach-in-Open-clause-stands
returns-in_ok-reach-in-Open-clause-stands g c = λ tells records is.
    let i = g.D.Desk.state c.args.desk.now in
    let f = c.args.self.now.file in
    let looked = c.in_ok-gate_at.ensures.looked in
    let roomy = c.in_ok-make_room-in-Open.ensures.shows (file_in f i) (c.in_ok-gate_at.ensures.shows tells) in
    let there = subst (λ (k : Image). Shows (file_in f k) c.make_room.new.self) (sym looked.same) roomy in
    let reached = c.in_ok-reach-in-Open.ensures.shows (looked.telling ∙ tells) there in
    stands_with c.args.self.now c.reach.new.self i records (subst (λ (k : Image). Shows (file_in f k) c.reach.new.self) looked.same reached) is
