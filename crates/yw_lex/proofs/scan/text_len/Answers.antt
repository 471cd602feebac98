use Rattle.std.proofs.Common.{arith}
use Rattle.yw_lex.proofs.FrontLemmas.{longest_text, no_text_at_newline, no_text_at_end}
use Rattle.yw_lex.proofs.scan.text_len.Goals as goal

pub returns-then-bytes-len-eq-QUOTE : goal.returns-then-bytes-len-eq-QUOTE
returns-then-bytes-len-eq-QUOTE c = longest_text c.args.bytes.now c.text.len c.text.invariant c.text-test.true c.if-len.true c.if-bytes-len-eq-QUOTE.true

pub returns-then-bytes-len-eq-NEWLINE : goal.returns-then-bytes-len-eq-NEWLINE
returns-then-bytes-len-eq-NEWLINE c = no_text_at_newline c.args.bytes.now c.text.len c.text.invariant c.text-test.true c.if-bytes-len-eq-NEWLINE.true

pub returns-else-len : goal.returns-else-len
returns-else-len c = no_text_at_end c.args.bytes.now c.text.len c.text.invariant (λ _. omega arith)

pub returns-after-text : goal.returns-after-text
returns-after-text c = no_text_at_end c.args.bytes.now c.text.len c.text.invariant (λ more. absurd (omega arith))
