use Rattle.yw_accept.proofs.LayerLemmas.{new_name}
use Rattle.yw_library.proofs.trees.scope.vars_layer.Goals as goal
use Rattle.yw_spec.specs.declared.spec.Var.{Var}

pub add_new-requires : goal.add_new-requires
add_new-requires c =
    new_name (λ (v : Var). v.name) (λ (v : Var). v.sort) c.args.vars.now c.requires c.loop-var.layer c.as_slice-var-items.result.now c.loop-var.var-index
    c.var-item.result
    c.as_str.result.now c.as_slice-var-items.ensures c.loop-var-test.true c.var-item.is c.as_str.ensures.text c.loop-var.invariant
