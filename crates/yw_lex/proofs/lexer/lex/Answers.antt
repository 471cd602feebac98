use Rattle.yw_lex.proofs.TokenLemmas.{IsAnswer, found_only, found_order, found_slices, found_tokens, stops_only, stops_where}
use Rattle.yw_lex.proofs.lexer.lex.Goals as goal

pub returns : goal.returns
returns c =
    let text = c.args.text.now in
    let r = c.tokens_of.result in
    let h : IsAnswer text r = rw (← c.as_bytes.ensures.value) c.tokens_of.ensures in
    record {
      ok = found_tokens text r h;
      slices = found_slices text r h;
      order = found_order text r h;
      only = found_only text r h;
      at = stops_where text r h;
      stops = stops_only text r h;
    }
