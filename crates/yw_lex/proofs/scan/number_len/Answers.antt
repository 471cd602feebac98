use Rattle.std.proofs.Common.{arith}
use Rattle.yw_lex.proofs.FrontLemmas.{longest_number}
use Rattle.yw_lex.proofs.scan.number_len.Goals as goal

pub returns-in_default : goal.returns-in_default
returns-in_default c = longest_number c.args.bytes.now c.digits.len c.digits.number c.digits.invariant (λ _. c.in_default.ensures)

pub returns : goal.returns
returns c = longest_number c.args.bytes.now c.digits.len c.digits.number c.digits.invariant (λ more. absurd (omega arith))
