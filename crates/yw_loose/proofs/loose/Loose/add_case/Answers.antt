use Rattle.yw_idents.specs.Idents.{lent}
use Rattle.yw_loose.proofs.Knowing.{has_case, has_no_case}
use Rattle.yw_loose.proofs.loose.Loose.add_case.Goals as goal
use Rattle.yw_tree.proofs.OnResults.{on_ok}

pub returns-in_ok-idents_in-in-Some-clause-ok : goal.returns-in_ok-idents_in-in-Some-clause-ok
returns-in_ok-idents_in-in-Some-clause-ok c =
    on_ok c.add_all.result _ _ c.add_all.ensures.ok
    (has_case c.args.self.now c.add_all.new.self c.args.forest.now c.args.n c.in-Some.case.now (lent c.in_ok-idents_in-in-Some.field-0.items)
    c.in-Some.ensures c.in_ok-idents_in-in-Some.ensures)

pub returns-in-None-clause-ok : goal.returns-in-None-clause-ok
returns-in-None-clause-ok c = has_no_case c.args.self.now c.args.forest.now c.args.n c.in-None.ensures
