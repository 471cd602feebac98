use Rattle.std.proofs.Common.{inl, sym, ◌∙◌}
use Rattle.yw_path.proofs.UpstreamLemmas.{answers, comes}
use Rattle.yw_path.proofs.upstream.Upstream.may_still_come.Goals as goal

pub returns-then-is_marked : goal.returns-then-is_marked
returns-then-is_marked c = λ net is.
    (λ e. comes net c.args.self.now is c.args.marks.now c.args.active.now c.args.c (inl (sym c.is_marked.ensures ∙ c.if-is_marked.true)), λ m. c.if-is_marked.true)

pub returns-else-is_marked : goal.returns-else-is_marked
returns-else-is_marked c = λ net is.
    answers net c.args.self.now is c.args.marks.now c.args.active.now c.args.c c.has_source_upstream.result (sym c.is_marked.ensures ∙ c.if-is_marked.false) c.has_source_upstream.ensures
