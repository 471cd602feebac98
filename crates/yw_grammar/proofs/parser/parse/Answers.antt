use Rattle.yw_grammar.proofs.Turns.{only, only_fault}
use Rattle.yw_grammar.proofs.parser.parse.Goals as goal

pub returns-clause-spelled : goal.returns-clause-spelled
returns-clause-spelled c = only c.run.result c.args.lexemes.now c.args.end c.run.ensures

pub returns-clause-faulty : goal.returns-clause-faulty
returns-clause-faulty c = only_fault c.run.result c.args.lexemes.now c.args.end c.run.ensures
