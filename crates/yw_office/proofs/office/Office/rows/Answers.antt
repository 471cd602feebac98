use Rattle.std.proofs.Common.{List, Option, ap, subst, sym, ◌∙◌}
use Rattle.std.proofs.lemmas.Result.{IfOk-weaker}
use Rattle.std.specs.Prelude.{IfOk}
use Rattle.yw_engine.specs.Held.{Held, state_of}
use Rattle.yw_office.proofs.office.Office.rows.Goals as goal
use Rattle.yw_state.specs.State.{State}
use Rattle.yw_state.specs.declared.answer.WorkRow.{WorkRow}
use Rattle.yw_worklist.specs.Lists.{IsListed}
use Rattle.yw_worklist.specs.Rows.{IsToldWork}

pub returns : goal.returns
returns c =
    let e = c.self.inside.engine in
    let lists = c.self.inside.lists in
    let who = c.args.who.now in
    let kept = c.self.invariant (ap (λ (h : Held). h.spent) c.self.view_is ∙ sym c.is_spent.ensures ∙ c.if-is_spent.false) in
    let told : (found : Option (List WorkRow)) → ((s : State) → IsListed s lists → IsToldWork s who found) → IsToldWork (state_of e) who found =
    λ found all. all (state_of e) kept.listed in
    subst (λ (h : Held). IfOk c.rows.result (IsToldWork (state_of h) who)) c.self.view_is (IfOk-weaker c.rows.result _ _ told c.rows.ensures)
