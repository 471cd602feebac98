use Rattle.yw_accept.specs.Scopes.{vars_scope}
use Rattle.yw_build.specs.Expressions.{HasMeaning}
use Rattle.yw_build.proofs.ExpressionLemmas.{the_one}
use Rattle.yw_build.proofs.many.many_of.Goals as goal

pub items_of-requires-clause-each : goal.items_of-requires-clause-each
items_of-requires-clause-each c = the_one (HasMeaning (vars_scope c.args.numbers.now.said.now)) c.args.task.now.each c.in-Some.each c.in-Some.is c.requires.each
