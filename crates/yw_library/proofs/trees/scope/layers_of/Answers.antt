use Rattle.std.proofs.Common.{ap, sym, ◌∙◌}
use Rattle.std.proofs.lemmas.Result.{IfOk-weaker}
use Rattle.yw_library.proofs.trees.scope.layers_of.Goals as goal
use Rattle.yw_library.specs.Scopes.{scope_of}

pub returns-in-Cases : goal.returns-in-Cases
returns-in-Cases c =
    IfOk-weaker c.top_layers.result _ _ (λ layers is. is c.in-Cases.field-0 ∙ ap (scope_of c.args.spec.now) (sym c.in-Cases.is)) c.top_layers.ensures
