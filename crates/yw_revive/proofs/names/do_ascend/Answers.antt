use Rattle.std.proofs.Common.{◌∙◌, ◌-◌, sym, arith, drop, length-drop}
use Rattle.yw_revive.proofs.names.do_ascend.Goals as goal
use Rattle.yw_revive.specs.Names.{spec_before}
use Rattle.yw_states.specs.Ascending.{few_ascend}

pub returns : goal.returns
returns c =
    let specs = c.args.specs.now in
    sym (c.loop-i.invariant.so_far ∙ few_ascend spec_before (drop (c.loop-i.i - 1) specs) (omega (arith, length-drop (c.loop-i.i - 1) specs, c.loop-i.invariant.some, c.loop-i-test.false)))
