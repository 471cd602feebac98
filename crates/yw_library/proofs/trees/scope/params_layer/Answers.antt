use Rattle.yw_accept.proofs.LayerLemmas.{new_name}
use Rattle.yw_library.proofs.trees.scope.params_layer.Goals as goal
use Rattle.yw_spec.specs.declared.task.Param.{Param}

pub add_new-requires : goal.add_new-requires
add_new-requires c =
    new_name (λ (p : Param). p.name) (λ (p : Param). p.sort) c.args.params.now c.requires c.loop-param.layer c.as_slice-param-items.result.now
    c.loop-param.param-index c.param-item.result
    c.as_str.result.now c.as_slice-param-items.ensures c.loop-param-test.true c.param-item.is c.as_str.ensures.text c.loop-param.invariant
