use Rattle.std.proofs.Common.{sym, ◌∙◌}
use Rattle.yw_deeds.proofs.RunsGo.{first_is, first_none, same_so}
use Rattle.yw_deeds.proofs.runs.is_first.Goals as goal

pub returns-in-Some : goal.returns-in-Some
returns-in-Some c = c.is_same.ensures ∙ same_so c.args.primitive.now c.in-Some.first.now ∙ sym (first_is c.args.primitive.now c.args.rest.now c.in-Some.first.now (sym c.in-Some.ensures))

pub returns-in-None : goal.returns-in-None
returns-in-None c = sym (first_none c.args.primitive.now c.args.rest.now (sym c.in-None.ensures))
