use Rattle.std.proofs.Common.{ap, length, subst, sym, take, true, ◌-◌, ◌∙◌, ◌≡◌}
use Rattle.std.specs.Prelude.{SomeIff}
use Rattle.yw_base.proofs.Parents.{identity_long, parent_is}
use Rattle.yw_base.proofs.ident.Ident.parent.Goals as goal
use Rattle.yw_base.specs.Identity.{is_identity, parent}

pub returns : goal.returns
returns c =
    let j = c.args.self.now in
    let e : c.in_ok-above.above.items ≡ parent j =
    c.in_ok-above.ensures.items ∙ ap (λ z. take (length z - 1) z) c.numbers-numbers.ensures.numbers ∙ sym (parent_is j (identity_long j c.numbers-numbers.ensures.identity)) in
    subst (λ z. SomeIff c.from_numbers.result (is_identity z ≡ true) z) e c.from_numbers.ensures
