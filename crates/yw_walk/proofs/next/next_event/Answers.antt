use Rattle.yw_enabled.proofs.Results.{ok_then}
use Rattle.yw_idents.specs.Idents.{lent}
use Rattle.yw_walk.proofs.AllRest.{next_there, no_case_there}
use Rattle.yw_walk.proofs.next.next_event.Goals as goal

pub returns-in_ok-idents_in-in-Some : goal.returns-in_ok-idents_in-in-Some
returns-in_ok-idents_in-in-Some c =
    ok_then c.first_at.result _ _ (c.first_at.ensures c.args.n)
    (λ found among. next_there c.args.known.now c.args.forest.now c.args.n c.args.next c.in-Some.case.now c.in-Some.ensures
    (lent c.in_ok-idents_in-in-Some.field-0.items) c.in_ok-idents_in-in-Some.ensures found among)

pub returns-in-None : goal.returns-in-None
returns-in-None c = no_case_there c.args.known.now c.args.forest.now c.args.n c.args.next c.in-None.ensures
