use Rattle.std.proofs.Common.{sym, ap, ◌∙◌}
use Rattle.yw_lines.specs.Identities.{identity_in}
use Rattle.yw_wire.proofs.IdentityLemmas.{identity_in-dotted, identity_in-none}
use Rattle.yw_wire.proofs.kinds.identity_in.Goals as goal

pub returns-in-Ok : goal.returns-in-Ok
returns-in-Ok c =
    let h = c.in-Ok.ensures.ok in
    ap identity_in (sym h.1) ∙ identity_in-dotted c.in-Ok.ident h.0

pub returns-in-Err-Shape : goal.returns-in-Err-Shape
returns-in-Err-Shape c = identity_in-none c.args.text.now (c.in-Err-Shape.ensures.shape.0 (cc))
