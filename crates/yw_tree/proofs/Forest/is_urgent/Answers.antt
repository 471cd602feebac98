use Rattle.std.proofs.Common.{sym, ◌∙◌}
use Rattle.yw_tree.proofs.UrgentLaw.{urgent_is}
use Rattle.yw_tree.proofs.Forest.is_urgent.Goals as goal

pub returns : goal.returns
returns c = λ names s b is. c.is_urgent.ensures ∙ sym (urgent_is names c.args.self.now b c.args.n s is)
