use Rattle.std.proofs.Common.{List, Option, subst}
use Rattle.std.proofs.lemmas.Result.{IfOk-weaker}
use Rattle.yw_engine.specs.Held as engine
use Rattle.yw_serve.proofs.ToldLemmas.{list_refused, list_told}
use Rattle.yw_serve.proofs.queries.plan_list.Goals as goal
use Rattle.yw_state.specs.declared.answer.WorkRow.{WorkRow}
use Rattle.yw_worklist.specs.Rows.{IsToldWork}

pub returns-in_ok-reply_rows-in-Some : goal.returns-in_ok-reply_rows-in-Some
returns-in_ok-reply_rows-in-Some c =
    let s = engine.state_of c.args.office.now in
    let who = c.args.who.now in
    let told = subst (λ (found : Option (List WorkRow)). IsToldWork s who found) c.in-Some.is c.in_ok-rows.ensures in
    list_told s c.args.n _ who c.in-Some.rows told.0 told.1 c.in_ok-reply_rows-in-Some.ensures

pub returns-in-None : goal.returns-in-None
returns-in-None c =
    let s = engine.state_of c.args.office.now in
    let who = c.args.who.now in
    let none = subst (λ (found : Option (List WorkRow)). IsToldWork s who found) c.in-None.is c.in_ok-rows.ensures in
    IfOk-weaker c.refuse_by.result _ _ (λ plan plans. list_refused s c.args.n plan who none plans) c.refuse_by.ensures
