use Rattle.std.proofs.Common.{sym, ◌∙◌}
use Rattle.yw_base.proofs.DottedLemmas.{dotted-same}
use Rattle.yw_base.proofs.ident.Ident.read.Goals as goal

pub returns-in-Ok-clause-printed : goal.returns-in-Ok-clause-printed
returns-in-Ok-clause-printed c numbers is text =
    let h = c.in-Ok.ensures in
    let found = c.in-Some.ensures in
    h.items ∙ c.as_slice.ensures ∙ dotted-same c.in-Some.numbers numbers found.0 is (sym found.1 ∙ text)
