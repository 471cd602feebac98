use Rattle.std.proofs.Common.{sym, ap, ◌∙◌}
use Rattle.yw_serve.specs.Summary.{with_entry, with_plan}
use Rattle.yw_serve.proofs.summary.Summary.count.Goals as goal

pub returns-in-Accept-clause-counted : goal.returns-in-Accept-clause-counted
returns-in-Accept-clause-counted c =
    c.count_entry.ensures.counted ∙ ap (with_entry c.args.self.now) c.as_slice.ensures ∙ ap (with_plan c.args.self.now) (sym c.in-Accept.is)
