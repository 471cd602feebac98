use Rattle.std.proofs.Common.{Err, Ok, inr, subst, ◌∙◌}
use Rattle.std.proofs.lemmas.Result.{IfOk-weaker}
use Rattle.yw_expr.specs.Parsing.{Means, MeansOr}
use Rattle.yw_library.proofs.RoomLemmas.{misread, refused_by}
use Rattle.yw_library.proofs.trees.condition.condition.Goals as goal
use Rattle.yw_library.specs.Scopes.{scope_of}

pub returns-in-Err-clause-refused : goal.returns-in-Err-clause-refused
returns-in-Err-clause-refused c =
    let text = c.args.when.now in
    let scope = scope_of c.args.spec.now c.args.owner in
    let means = subst (λ s. MeansOr text s (Err c.in-Err.fault)) (c.nested-scope.ensures ∙ c.in_ok-layers.ensures) c.in-Err.ensures.means in
    refused_by text scope c.fault_text.result c.bad_expr.result c.bad_expr.ensures
    (misread text scope c.in-Err.fault c.fault_text.result means c.fault_text.ensures)

pub returns-then-not-is_condition-clause-refused : goal.returns-then-not-is_condition-clause-refused
returns-then-not-is_condition-clause-refused c =
    let text = c.args.when.now in
    let scope = scope_of c.args.spec.now c.args.owner in
    let test = c.in-Ok.test in
    let means = subst (λ s. Means text s (Ok test)) (c.nested-scope.ensures ∙ c.in_ok-layers.ensures) c.in-Ok.ensures.means in
    refused_by text scope c.copy_of.result c.bad_expr-then-not-is_condition.result c.bad_expr-then-not-is_condition.ensures
    (IfOk-weaker c.copy_of.result _ _
    (λ at is. inr (record { test = test; means = means; other = λ e. let yes = c.is_condition.ensures.1 e in cc; place = is })) c.copy_of.ensures)

pub returns-clause-ok : goal.returns-clause-ok
returns-clause-ok c = (
  subst (λ s. Means c.args.when.now s (Ok c.in-Ok.test)) (c.nested-scope.ensures ∙ c.in_ok-layers.ensures) c.in-Ok.ensures.means,
  c.is_condition.ensures.0 c.if-not-is_condition.false,
)
