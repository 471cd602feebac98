use Rattle.std.proofs.Common.{ap, ◌∙◌, is_ok}
use Rattle.std.proofs.ResultArms.{chosen}
use Rattle.yw_grammar.specs.Tie.{tops}
use Rattle.yw_grammar.proofs.Tops.{tops_push}
use Rattle.yw_grammar.proofs.stack.put.Goals as goal

pub returns : goal.returns
returns c = ap tops (chosen _ _ _ _ c.push.ensures.items (ap is_ok c.in_ok-push.was)) ∙ tops_push c.args.stack.now.items c.args.frame
