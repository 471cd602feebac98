use Rattle.yw_within.proofs.Finding as finding
use Rattle.yw_within.proofs.flows_have_places.Goals as goal

pub returns-clause-before : goal.returns-clause-before
returns-clause-before c = λ spec net t k within among. finding.before_within spec net within t k among

pub returns-clause-after : goal.returns-clause-after
returns-clause-after c = λ spec net t k within among. finding.after_within spec net within t k among
