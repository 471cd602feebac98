use Rattle.std.proofs.Common.{ap, length, subst, sym, take, true, ◌-◌, ◌∙◌, ◌≡◌}
use Rattle.yw_base.specs.Identity.{is_identity, parent}
use Rattle.yw_nest.proofs.Outer.{parent_identity}
use Rattle.yw_nest.proofs.nets.parent.Goals as goal
use Rattle.yw_base.proofs.Parents.{identity_long, parent_is}

pub unreachable-requires : goal.unreachable-requires
unreachable-requires c =
    let j = c.args.j.now in
    let i = c.numbers-numbers.ensures.identity in
    let e : c.in_ok-outer.outer.items ≡ parent j = c.in_ok-outer.ensures.items ∙ ap (λ z. take (length z - 1) z) c.numbers-numbers.ensures.numbers ∙ sym (parent_is j (identity_long j i)) in
    c.in-None.ensures (subst (λ z. is_identity z ≡ true) (sym e) (parent_identity j i c.requires))

pub returns : goal.returns
returns c =
    let j = c.args.j.now in
    let i = c.numbers-numbers.ensures.identity in
    let e : c.in_ok-outer.outer.items ≡ parent j = c.in_ok-outer.ensures.items ∙ ap (λ z. take (length z - 1) z) c.numbers-numbers.ensures.numbers ∙ sym (parent_is j (identity_long j i)) in
    c.in-Some.ensures.1 ∙ e
