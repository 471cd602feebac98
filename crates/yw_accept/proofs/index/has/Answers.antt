use Rattle.std.proofs.Common.{◌∙◌}
use Rattle.yw_accept.proofs.IndexLemmas.{index_has}
use Rattle.yw_accept.proofs.index.has.Goals as goal

pub returns : goal.returns
returns c = λ texts h. c.is_some.ensures ∙ index_has texts c.args.index.now c.args.text.now c.find.result c.find.ensures h
