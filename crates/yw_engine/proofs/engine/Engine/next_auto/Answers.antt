use Rattle.std.proofs.Common.{Some, None, subst}
use Rattle.yw_engine.proofs.Parts.{found_so}
use Rattle.yw_engine.proofs.engine.Engine.next_auto.Goals as goal
use Rattle.yw_engine.specs.Decides.{IsNext}
use Rattle.yw_engine.specs.Held.{Held, state_of}
use Rattle.yw_state.specs.Automatic.{Comes, IsQuiet}

pub returns-in-Some : goal.returns-in-Some
returns-in-Some c =
    subst (λ (h : Held). Comes (state_of h) c.args.case c.in-Some.found.event) c.self.view_is
    (found_so c.self.inside.work.standing c.args.case (Some c.in-Some.found) (subst (IsNext c.self.inside.work.standing c.args.case) c.in-Some.is c.in_ok-found.ensures))

pub returns-in-None : goal.returns-in-None
returns-in-None c =
    subst (λ (h : Held). IsQuiet (state_of h) c.args.case) c.self.view_is
    (found_so c.self.inside.work.standing c.args.case None (subst (IsNext c.self.inside.work.standing c.args.case) c.in-None.is c.in_ok-found.ensures))
