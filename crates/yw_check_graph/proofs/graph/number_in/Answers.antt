use Rattle.std.proofs.Common.{refl, ◌∙◌}
use Rattle.yw_check_graph.proofs.NumberLemmas.{found_at}
use Rattle.yw_check_graph.proofs.graph.number_in.Goals as goal

pub returns-clause-within : goal.returns-clause-within
returns-clause-within c = (found_at c.args.names.now c.in-Some.number c.as_str.result.now (c.in-Some.ensures.found c.args.names.now c.requires.index c.in-Some.number refl)).0

pub returns-clause-name : goal.returns-clause-name
returns-clause-name c = (found_at c.args.names.now c.in-Some.number c.as_str.result.now (c.in-Some.ensures.found c.args.names.now c.requires.index c.in-Some.number refl)).1 ∙ c.as_str.ensures
