use Rattle.std.proofs.Common.{ap, sym, ◌∙◌}
use Rattle.std.specs.Prelude.{not}
use Rattle.yw_library.proofs.Removals.{before_last}
use Rattle.yw_library.proofs.trees.conclusion.removes_last.Goals as goal
use Rattle.yw_state.specs.NewRule.{removes_last}

pub returns-in-Some : goal.returns-in-Some
returns-in-Some c = ap not c.has_removal.ensures ∙ before_last c.in-Some.before.now c.in-Some.field-0-0.now ∙ ap removes_last (sym c.in-Some.ensures.cases.0)
