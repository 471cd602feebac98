use Rattle.std.proofs.Common.{ap, sym, ◌∙◌, ◌++◌}
use Rattle.std.proofs.lemmas.List.{map-append}
use Rattle.yw_expr.specs.Scope.{binding}
use Rattle.yw_library.proofs.trees.scope.task_layers.Goals as goal
use Rattle.yw_library.specs.Scopes.{params_of}
use Rattle.yw_spec.specs.declared.task.Param.{Param}

pub returns : goal.returns
returns c =
    let t = c.args.task.now in
    ap (λ z. z ++ c.in_ok-outer.outer) c.in_ok-inner.ensures ∙ ap (λ z. params_of t.ins ++ z) c.in_ok-outer.ensures
    ∙ sym (map-append (λ (p : Param). binding p.name p.sort) t.ins t.outs)
