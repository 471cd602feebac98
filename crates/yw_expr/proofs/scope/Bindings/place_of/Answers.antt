use Rattle.std.proofs.Common.{◌^◌, arith, rules}
use Rattle.yw_expr.proofs.Layers.{place_below}
use Rattle.yw_expr.proofs.scope.Bindings.place_of.Goals as goal

pub returns-clause-small : goal.returns-clause-small
returns-clause-small c =
    let list = c.self.inside.list in
    place_below c.self.inside.list.items c.args.name.now (2 ^ 63) c.copied.result (omega arith) (search rules)
