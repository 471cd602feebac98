use Rattle.std.proofs.Common.{sym, ◌∙◌}
use Rattle.std.specs.Prelude.{◌||◌}
use Rattle.yw_engine.proofs.work.apply_owned.Goals as goal

pub apply-requires-clause-apart : goal.apply-requires-clause-apart
apply-requires-clause-apart c =
    let numbered = sym c.is_numbered.ensures ∙ c.if-is_numbered.false in
    λ i. c.requires.load i || numbered i
