use Rattle.std.specs.Prelude.{is_some}
use Rattle.yw_accept.specs.Scopes.{gathered}
use Rattle.yw_read.specs.declared.raw.RawOut.{RawOut}
use Rattle.yw_accept.proofs.LayerLemmas.{new_name}
use Rattle.yw_accept.proofs.layers.outs_layer.Goals as goal

pub add_new-requires : goal.add_new-requires
add_new-requires c =
    new_name (λ (p : RawOut). p.name) (λ (p : RawOut). gathered (is_some c.args.task.now.each) p.sort) c.args.task.now.outs c.requires c.loop-parameter.layer c.as_slice-parameter-items.result.now c.loop-parameter.parameter-index c.parameter-item.result
    c.as_str.result.now c.as_slice-parameter-items.ensures c.loop-parameter-test.true c.parameter-item.is c.as_str.ensures c.loop-parameter.invariant
