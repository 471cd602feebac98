use Rattle.std.proofs.Common.{◌+◌, ◌<◌, ◌^◌, arith}
use Rattle.yw_loose.proofs.Moving.{no_identity, too_large}
use Rattle.yw_loose.proofs.loose.Loose.add_item.Goals as goal
use Rattle.yw_base.specs.Identity.{child}

pub returns-in-None : goal.returns-in-None
returns-in-None c =
    let number = c.args.first + c.args.k in
    let k = c.from.ensures in
    no_identity c.args.self.now (child c.args.net.now number)
    (too_large c.args.net.now number (λ (small : number < 2 ^ 64). c.in-None.ensures (omega (arith, small, k))))
