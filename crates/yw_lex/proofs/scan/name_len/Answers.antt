use Rattle.std.proofs.Common.{sym, arith}
use Rattle.yw_lex.proofs.FrontLemmas.{longest_name}
use Rattle.yw_lex.proofs.scan.name_len.Goals as goal

pub returns-else-is_word_byte : goal.returns-else-is_word_byte
returns-else-is_word_byte c =
    let l = c.words.invariant in
    longest_name c.args.bytes.now c.words.len l.some l.few l.within c.requires.no_digit l.words (λ _ _. sym c.if-is_word_byte.ensures)

pub returns-else-len-lt-MOST_NAME_BYTES : goal.returns-else-len-lt-MOST_NAME_BYTES
returns-else-len-lt-MOST_NAME_BYTES c =
    let l = c.words.invariant in
    longest_name c.args.bytes.now c.words.len l.some l.few l.within c.requires.no_digit l.words (λ more few. absurd (omega arith))

pub returns-after-words : goal.returns-after-words
returns-after-words c =
    let l = c.words.invariant in
    longest_name c.args.bytes.now c.words.len l.some l.few l.within c.requires.no_digit l.words (λ more few. absurd (omega arith))
