use Rattle.yw_steps.proofs.FromState.{come_before, may_get, may_grow}
use Rattle.yw_steps.proofs.laws.task_may_grow.Goals as goal

pub returns-clause-may : goal.returns-clause-may
returns-clause-may c = may_grow

pub returns-clause-before : goal.returns-clause-before
returns-clause-before c = come_before

pub returns-clause-needs : goal.returns-clause-needs
returns-clause-needs c = λ names f s h holds i n task due at checks. may_get s h.numbers holds i n task due at checks
