use Rattle.std.proofs.Common.{[]}
use Rattle.std.specs.Prelude.{unwrap_or}
use Rattle.std.specs.Option.{option_copied}
use Rattle.yw_expr.proofs.Layers.{place_in_inner, place_in_outer}
use Rattle.yw_expr.proofs.scope.Scope.place_of.Goals as goal

pub returns-in-Some : goal.returns-in-Some
returns-in-Some c =
    place_in_inner c.self.inside.inner.now (unwrap_or (option_copied c.self.inside.outer) []) c.args.self.now c.args.name.now c.in-Some.place
    c.self.view_is c.in-Some.ensures.place

pub returns-in-None : goal.returns-in-None
returns-in-None c =
    place_in_outer c.self.inside.inner.now (unwrap_or (option_copied c.self.inside.outer) []) c.args.self.now c.args.name.now c.len.result c.place_behind.result
    c.self.view_is c.len.ensures.len c.in-None.ensures.place c.place_behind.ensures
