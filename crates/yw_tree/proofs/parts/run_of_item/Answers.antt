use Rattle.std.proofs.Common.{refl, sym, ◌∙◌}
use Rattle.yw_tree.specs.declared.Node.{out-Node}
use Rattle.yw_tree.proofs.RunBack.{has_some, run_seen}
use Rattle.yw_tree.proofs.parts.run_of_item.Goals as goal

pub run_mut-requires : goal.run_mut-requires
run_mut-requires c = has_some c.args.id.now (out-Node c.args.node.now).run (sym c.has_run.ensures ∙ c.if-not-has_run.false)

pub returns : goal.returns
returns c = (refl, record { writes_back = tt; value = run_seen c.args.id.now (out-Node c.args.node.now).run c.run_mut.result.now (sym c.has_run.ensures ∙ c.if-not-has_run.false) c.run_mut.ensures.value })
