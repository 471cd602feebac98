use Rattle.yw_idents.specs.Idents.{lent}
use Rattle.yw_nest.proofs.Results.{if_ok}
use Rattle.yw_urgent.proofs.Looking.{case_there, no_case_there}
use Rattle.yw_urgent.proofs.first.urgent_in.Goals as goal

pub returns-in_ok-idents_in-in-Some : goal.returns-in_ok-idents_in-in-Some
returns-in_ok-idents_in-in-Some c =
    if_ok c.first_of.result _ _ c.first_of.ensures
    (λ found among. case_there c.args.forest.now c.args.case c.in-Some.found.now c.in-Some.ensures
    (lent c.in_ok-idents_in-in-Some.field-0.items) c.in_ok-idents_in-in-Some.ensures found among)

pub returns-in-None : goal.returns-in-None
returns-in-None c = no_case_there c.args.forest.now c.args.case c.in-None.ensures
