use Rattle.std.proofs.Common.{ℕ, sym, subst}
use Rattle.std.proofs.lemmas.Result.{IfOk-weaker}
use Rattle.yw_engine.specs.Held as engine
use Rattle.yw_library.specs.Held.{IsHeld}
use Rattle.yw_library.specs.Holdings.{Holdings}
use Rattle.yw_state.specs.Answers.{IsShown}
use Rattle.yw_tree.specs.declared.Forest.{Forest}
use Rattle.yw_serve.proofs.ToldLemmas.{show_refused, show_told}
use Rattle.yw_serve.proofs.queries.plan_show.Goals as goal

pub returns-then-not-is_case : goal.returns-then-not-is_case
returns-then-not-is_case c =
    let e = c.args.engine.now in
    let s = engine.state_of e in
    let held = subst (λ (f : Forest). IsHeld e.standing.known f s) (sym c.forest-forest.ensures) (c.is_held.ensures c.requires) in
    IfOk-weaker c.refuse_by.result _ _ (λ plan plans. show_refused s c.args.n plan c.args.case.now (sym (c.if-not-is_case.ensures e.standing.known s held)) plans) c.refuse_by.ensures

pub returns : goal.returns
returns c =
    let e = c.args.engine.now in
    let s = engine.state_of e in
    let held = subst (λ (f : Forest). IsHeld e.standing.known f s) (sym c.forest-forest.ensures) (c.is_held.ensures c.requires) in
    let both = subst (λ (k : Holdings). IsHeld k c.forest-forest.result.now s) (sym c.known-known.ensures) held in
    let shown = subst (λ (k : ℕ). IsShown s k c.in_ok-shown.shown) c.case_number.ensures (c.in_ok-shown.ensures s both) in
    show_told s c.args.n _ c.args.case.now c.in_ok-shown.shown (sym (c.if-not-is_case.ensures e.standing.known s held)) shown c.in_ok-reply_shown.ensures
