use Rattle.std.proofs.Common.{sym, ◌∙◌}
use Rattle.yw_enabled.proofs.Counted.{too_few_pass}
use Rattle.yw_enabled.proofs.left.so_many_count.Goals as goal
use Rattle.yw_enabled.specs.Left.{is_done}

pub returns-then-spare-eq0 : goal.returns-then-spare-eq0
returns-then-spare-eq0 c =
    sym (too_few_pass is_done c.args.nodes.now c.loop-i.i c.loop-i.spare c.args.wanted c.index-nodes-i.result c.loop-i-test.true c.loop-i.auto.i
    c.index-nodes-i.is (sym c.is_done.ensures ∙ c.if-is_done.false) c.if-spare-eq0.true c.loop-i.invariant)
