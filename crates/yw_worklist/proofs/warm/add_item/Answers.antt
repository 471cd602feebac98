use Rattle.std.proofs.Common.{◌+◌, ◌<◌, ◌^◌, arith}
use Rattle.yw_base.specs.Identity.{child}
use Rattle.yw_worklist.proofs.Warming.{no_identity, too_large}
use Rattle.yw_worklist.proofs.warm.add_item.Goals as goal

pub returns-in-None : goal.returns-in-None
returns-in-None c =
    let number = c.args.first + c.args.k in
    let k = c.from.ensures in
    no_identity c.args.ids.now (child c.args.net.now number)
    (too_large c.args.net.now number (λ (small : number < 2 ^ 64). c.in-None.ensures (omega (arith, small, k))))
