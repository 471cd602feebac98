use Rattle.std.proofs.Common.{ap, sym, ◌∙◌}
use Rattle.std.specs.Prelude.{find, ◌==◌}
use Rattle.yw_breaks.proofs.Counts.{none_lacking}
use Rattle.yw_breaks.proofs.enter.lacking.Goals as goal
use Rattle.yw_state.proofs.Tests.{never}

pub returns : goal.returns
returns c =
    sym (none_lacking c.args.task.now c.args.vals.now c.args.rows.now c.requires
    (λ none. never (sym (sym c.is_empty.ensures ∙ c.if-is_empty.false) ∙ ap (λ k. k == 0) none)))
