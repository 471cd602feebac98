use Rattle.std.proofs.Common.{◌+◌, arith}
use Rattle.yw_expr.proofs.Digits.{number_of_step, number_of_front}
use Rattle.yw_expr.proofs.lexeme.number_of.Goals as goal

pub overflow_mul-number : goal.overflow_mul-number
overflow_mul-number c =
    let step = number_of_step c.args.digits.now c.loop-digit.digit-index c.loop-digit-test.true in
    let front = number_of_front (c.loop-digit.digit-index + 1) c.args.digits.now in
    omega arith

pub overflow_add-number : goal.overflow_add-number
overflow_add-number c =
    let step = number_of_step c.args.digits.now c.loop-digit.digit-index c.loop-digit-test.true in
    let front = number_of_front (c.loop-digit.digit-index + 1) c.args.digits.now in
    omega arith
