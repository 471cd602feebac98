use Rattle.std.proofs.Common.{◌∙◌, ◌-◌, sym, arith, drop, length-drop}
use Rattle.yw_states.specs.Ascending.{few_ascend}
use Rattle.yw_states.proofs.ascending.do_ascend.Goals as goal

pub returns : goal.returns
returns g c =
    let rows = c.args.rows.now in
    sym (c.loop-i.invariant.so_far ∙ few_ascend g.T.Keyed.before (drop (c.loop-i.i - 1) rows) (omega (arith, length-drop (c.loop-i.i - 1) rows, c.loop-i.invariant.some, c.loop-i-test.false)))
