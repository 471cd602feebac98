use Rattle.std.proofs.Common.{◌∙◌, ⊎_elim}
use Rattle.std.proofs.lemmas.List.Elements.{All-same}
use Rattle.yw_expr.specs.Lexemes.{lexemes_of, IsSoundToken}
use Rattle.yw_expr.proofs.Once.{only_tokens}
use Rattle.yw_expr.proofs.Scoped.{reads_scoped}
use Rattle.yw_expr.proofs.TokenLemmas.{sound_tokens}
use Rattle.yw_expr.proofs.parsing.parse.Goals as goal

pub read_tokens-requires : goal.read_tokens-requires
read_tokens-requires c =
    let text = c.args.text.now in
    All-same (IsSoundToken text) c.as_slice.result.now c.in_ok-tokens.tokens c.as_slice.ensures
    (sound_tokens text c.utf8.text c.in_ok-tokens.tokens c.in_ok-tokens.ensures.slices)

pub returns-clause-only : goal.returns-clause-only
returns-clause-only c =
    only_tokens c.args.text.now c.args.scope.now c.as_slice.result.now
    (λ others k. c.as_slice.ensures ∙ c.in_ok-tokens.ensures.only others k)
    (λ at k. ⊎_elim (λ e. cc) (λ e. cc) (c.in_ok-tokens.ensures.stops at k))
    c.read_tokens.result c.read_tokens.ensures.only

pub returns-clause-scoped : goal.returns-clause-scoped
returns-clause-scoped c =
    let text = c.args.text.now in
    reads_scoped text c.args.scope.now (lexemes_of text c.as_slice.result.now) c.read_tokens.result c.read_tokens.ensures.reads
