use Rattle.std.proofs.Common.{[]}
use Rattle.yw_nest.proofs.end.remove_case.Goals as goal
use Rattle.yw_tree.proofs.Lift.{case_cut}

pub returns-clause-sites : goal.returns-clause-sites
returns-clause-sites c = λ names. (case_cut names c.args.n c.args.forest.now (record { cases = c.remove-gone.new.self }) c.requires c.remove-gone.ensures.gone).0

pub returns-clause-boxed : goal.returns-clause-boxed
returns-clause-boxed c = (case_cut (λ k. []) c.args.n c.args.forest.now (record { cases = c.remove-gone.new.self }) c.requires c.remove-gone.ensures.gone).1
