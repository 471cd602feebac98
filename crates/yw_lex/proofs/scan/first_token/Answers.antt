use Rattle.std.proofs.Common.{sym}
use Rattle.yw_lex.specs.declared.token.Word.TheVariants.{Name, Reserved}
use Rattle.yw_lex.proofs.KindLemmas.{token_by_digit, token_by_word, token_by_quote, token_by_sign, no_token_by_quote, no_token_by_sign}
use Rattle.yw_lex.proofs.scan.first_token.Goals as goal

pub returns-then-is_digit : goal.returns-then-is_digit
returns-then-is_digit c = token_by_digit c.args.bytes.now (sym c.if-is_digit.ensures) c.number_len.result c.number_len.ensures

pub returns-then-is_reserved : goal.returns-then-is_reserved
returns-then-is_reserved c =
    token_by_word c.args.bytes.now (sym c.if-is_digit.ensures) (sym c.if-is_word_byte.ensures) Reserved c.name_len-len.result c.name_len-len.ensures (sym c.if-is_reserved.ensures)

pub returns-then-is_word_byte : goal.returns-then-is_word_byte
returns-then-is_word_byte c =
    let l = c.name_len-len.ensures in
    token_by_word c.args.bytes.now (sym c.if-is_digit.ensures) (sym c.if-is_word_byte.ensures) Name c.name_len-len.result l (l.here, sym c.if-is_reserved.ensures)

pub returns-in_err-text_len : goal.returns-in_err-text_len
returns-in_err-text_len c =
    let none = no_token_by_quote c.args.bytes.now c.if-first-eq-QUOTE.true c.in_err-text_len.ensures in
    rw c.from_residual.ensures none

pub returns-then-first-eq-QUOTE : goal.returns-then-first-eq-QUOTE
returns-then-first-eq-QUOTE c = token_by_quote c.args.bytes.now c.if-first-eq-QUOTE.true c.in_ok-text_len.field-0 c.in_ok-text_len.ensures

pub returns-in_err-sign_len : goal.returns-in_err-sign_len
returns-in_err-sign_len c =
    let none = no_token_by_sign c.args.bytes.now (sym c.if-is_digit.ensures) (sym c.if-is_word_byte.ensures) c.if-first-eq-QUOTE.false c.in_err-sign_len.ensures in
    rw c.from_residual-in_err-sign_len.ensures none

pub returns : goal.returns
returns c =
    token_by_sign c.args.bytes.now (sym c.if-is_digit.ensures) (sym c.if-is_word_byte.ensures) c.if-first-eq-QUOTE.false c.in_ok-sign_len.field-0 c.in_ok-sign_len.ensures
