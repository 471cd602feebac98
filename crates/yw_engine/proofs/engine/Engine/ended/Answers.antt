use Rattle.std.proofs.Common.{subst, ◌≡◌}
use Rattle.yw_engine.proofs.Parts.{ended_by}
use Rattle.yw_engine.proofs.engine.Engine.ended.Goals as goal
use Rattle.yw_engine.specs.Held.{Held, state_of}
use Rattle.yw_state.specs.Map.{get}

pub returns : goal.returns
returns c =
    subst (λ (h : Held). c.ended.result ≡ get (state_of h).ended c.args.n) c.self.view_is
    (ended_by c.self.inside.work.standing c.args.n c.ended.result c.ended.ensures)
