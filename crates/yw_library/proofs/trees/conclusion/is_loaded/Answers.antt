use Rattle.std.proofs.Common.{◌∙◌}
use Rattle.yw_library.proofs.KnownSpecs.{is_key}
use Rattle.yw_library.proofs.trees.conclusion.is_loaded.Goals as goal

pub returns : goal.returns
returns c = c.is_some.ensures ∙ is_key c.args.library.now c.args.name.now c.spec.result c.spec.ensures
