use Rattle.std.proofs.Common.{ap, ◌∙◌}
use Rattle.yw_library.proofs.Over.{put_ended}
use Rattle.yw_library.proofs.ended.EndedTable.put.Goals as goal
use Rattle.yw_library.specs.Ended.{ended_of}
use Rattle.yw_state.specs.Map.{insert}

pub returns-clause-ok : goal.returns-clause-ok
returns-clause-ok c =
    ap ended_of c.in_ok-insert.ensures.entries ∙ put_ended c.self.inside.map.entries c.args.n c.args.way
    ∙ ap (λ es. insert (ended_of es) c.args.n c.args.way) c.self.view_is
