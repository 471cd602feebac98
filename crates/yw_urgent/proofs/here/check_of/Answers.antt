use Rattle.std.proofs.Common.{sym, ◌∙◌}
use Rattle.yw_urgent.proofs.Looking.{held_up, next_there, not_due}
use Rattle.yw_urgent.proofs.here.check_of.Goals as goal

pub returns-then-is_busy : goal.returns-then-is_busy
returns-then-is_busy c = λ names s boxed sites due none.
    held_up s c.args.at.now (sym (c.is_busy.ensures.busy names s boxed sites) ∙ c.if-is_busy.true) none

pub returns-in-Some : goal.returns-in-Some
returns-in-Some c = λ names s boxed sites due none.
    next_there s c.args.at.now c.args.due due (sym (c.is_busy.ensures.busy names s boxed sites) ∙ c.if-is_busy.false) c.in-Some.check c.in-Some.ensures

pub returns-in-None : goal.returns-in-None
returns-in-None c = λ names s boxed sites due none. not_due s c.args.at.now c.args.due due c.in-None.ensures none
