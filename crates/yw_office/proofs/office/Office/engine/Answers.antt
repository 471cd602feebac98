use Rattle.std.proofs.Common.{ap, ◌∙◌}
use Rattle.yw_engine.specs.Held.{Held, state_of}
use Rattle.yw_office.proofs.office.Office.engine.Goals as goal

pub returns-clause-state : goal.returns-clause-state
returns-clause-state c = ap state_of c.self.view_is

pub returns-clause-fresh : goal.returns-clause-fresh
returns-clause-fresh c = λ fresh. (c.self.invariant (ap (λ (h : Held). h.spent) c.self.view_is ∙ fresh)).fresh
