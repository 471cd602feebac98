use Rattle.std.proofs.Common.{ap, ◌∙◌}
use Rattle.yw_library.proofs.Over.{get_ended}
use Rattle.yw_library.proofs.ended.EndedTable.get.Goals as goal
use Rattle.yw_library.specs.Ended.{ended_of}
use Rattle.yw_state.specs.Map.{get}

pub returns : goal.returns
returns c = c.copied.ensures ∙ c.get.ensures.value ∙ get_ended c.args.n c.self.inside.map.entries ∙ ap (λ es. get (ended_of es) c.args.n) c.self.view_is
