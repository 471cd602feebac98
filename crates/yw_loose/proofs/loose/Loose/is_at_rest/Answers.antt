use Rattle.std.proofs.Common.{sym, ◌∙◌}
use Rattle.std.proofs.lemmas.List.{nil_from_length}
use Rattle.yw_loose.proofs.Rested.{none_loose}
use Rattle.yw_loose.proofs.loose.Loose.is_at_rest.Goals as goal

pub returns-then-is_empty-clause-quiet : goal.returns-then-is_empty-clause-quiet
returns-then-is_empty-clause-quiet c = λ known s rested calm.
    none_loose c.args.self.now (nil_from_length c.args.self.now.idents.keys (c.is_empty.ensures.0 c.if-is_empty.true)) c.args.n
    (sym c.contains.ensures ∙ known) s rested calm
