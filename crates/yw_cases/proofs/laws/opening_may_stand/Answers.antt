use Rattle.yw_cases.proofs.Opening as opened
use Rattle.yw_cases.proofs.laws.opening_may_stand.Goals as goal

pub returns-clause-state : goal.returns-clause-state
returns-clause-state c = λ p is. opened.is_opening p is

pub returns-clause-stands : goal.returns-clause-stands
returns-clause-stands c = λ p is. opened.may_stand p is
