use Rattle.std.proofs.Common.{sym, ◌∙◌}
use Rattle.yw_loose.proofs.Behind.{rested_after}
use Rattle.yw_loose.proofs.loose.Loose.after.Goals as goal

pub returns-then-is_rule : goal.returns-then-is_rule
returns-then-is_rule c = λ known s t well held leads rested. c.forget.ensures t

pub returns-in-Ok : goal.returns-in-Ok
returns-in-Ok c = λ known s t well held leads rested.
    rested_after c.args.self.now c.add_moved.new.self c.after.new.self s t c.args.event.now well held.well (sym c.is_rule.ensures ∙ c.if-is_rule.false) leads
    (c.after.ensures known s t well held leads rested.counted) c.in-Ok.ensures rested

pub returns-in-Err : goal.returns-in-Err
returns-in-Err c = λ known s t well held leads rested. c.forget-in-Err.ensures t
