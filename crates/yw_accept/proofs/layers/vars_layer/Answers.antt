use Rattle.yw_read.specs.declared.raw.RawVar.{RawVar}
use Rattle.yw_accept.proofs.LayerLemmas.{new_name}
use Rattle.yw_accept.proofs.layers.vars_layer.Goals as goal

pub add_new-requires : goal.add_new-requires
add_new-requires c =
    new_name (λ (v : RawVar). v.name) (λ (v : RawVar). v.sort) c.args.net.now.vars c.requires c.loop-variable.layer c.as_slice-variable-items.result.now c.loop-variable.variable-index c.variable-item.result c.as_str.result.now
    c.as_slice-variable-items.ensures c.loop-variable-test.true c.variable-item.is c.as_str.ensures c.loop-variable.invariant
