use Rattle.std.proofs.Common.{ap, sym, ◌∙◌}
use Rattle.std.specs.Prelude.{is_some}
use Rattle.yw_cases.proofs.Ending.{case_there}
use Rattle.yw_cases.proofs.whole.case_stands.Goals as goal
use Rattle.yw_known.proofs.Items.{copied_there}

pub returns : goal.returns
returns c = c.is_some.ensures ∙ sym (copied_there c.case.result) ∙ ap is_some c.case.ensures ∙ sym (case_there c.args.standing.now c.requires c.args.n)
