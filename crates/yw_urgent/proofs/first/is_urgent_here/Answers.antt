use Rattle.std.proofs.Common.{sym}
use Rattle.yw_urgent.proofs.Looking.{here_is_urgent}
use Rattle.yw_urgent.proofs.first.is_urgent_here.Goals as goal

pub returns-in-Some : goal.returns-in-Some
returns-in-Some c = λ names s boxed sites. sym (here_is_urgent s c.args.at.now c.in-Some._urgent (c.in-Some.ensures names s boxed sites))

pub returns-in-None : goal.returns-in-None
returns-in-None c = λ names s boxed sites. sym (c.in-None.ensures names s boxed sites)
