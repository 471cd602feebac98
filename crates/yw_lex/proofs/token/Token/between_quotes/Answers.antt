use Rattle.std.proofs.Common.{[], ◌∷◌, ◌++◌, sym, ap, ◌∙◌}
use Rattle.yw_lex.specs.Spelling.{quote}
use Rattle.yw_lex.proofs.QuotedLemmas.{ends, quoted_is, starts}
use Rattle.yw_lex.proofs.token.Token.between_quotes.Goals as goal

pub range-requires-clause-start_boundary : goal.range-requires-clause-start_boundary
range-requires-clause-start_boundary c _ =
    starts c.args.text.now c.args.self.from c.args.self.to c.requires.within c.requires.quoted c.utf8.text

pub range-requires-clause-end_boundary : goal.range-requires-clause-end_boundary
range-requires-clause-end_boundary c = ends c.args.text.now c.args.self.from c.args.self.to c.requires.within c.requires.quoted

pub returns : goal.returns
returns c =
    let e = quoted_is c.args.text.now c.args.self.from c.args.self.to c.requires.within c.requires.quoted in
    e ∙ ap (λ l. quote ∷ (l ++ quote ∷ [])) (sym c.range.ensures.value)
