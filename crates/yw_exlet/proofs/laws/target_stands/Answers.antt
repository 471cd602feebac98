use Rattle.yw_exlet.proofs.Allowed.{passes, resumes, suspends}
use Rattle.yw_exlet.proofs.laws.target_stands.Goals as goal

pub returns-clause-suspend : goal.returns-clause-suspend
returns-clause-suspend c = λ names f s. suspends names f s

pub returns-clause-resume : goal.returns-clause-resume
returns-clause-resume c = λ names f s. resumes names f s

pub returns-clause-pass : goal.returns-clause-pass
returns-clause-pass c = λ names f s. passes names f s
