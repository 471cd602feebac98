use Rattle.std.proofs.Common.{ap, sym, ◌∙◌}
use Rattle.std.specs.Option.{option_copied}
use Rattle.yw_library.proofs.KnownSpecs.{named_here, none_at_place, none_of_spec, rules_here}
use Rattle.yw_library.proofs.library.Library.tree.Goals as goal
use Rattle.yw_trees.specs.Placed.{linked, rules_for}

pub returns-in_err-spec : goal.returns-in_err-spec
returns-in_err-spec c = λ s.
    ap option_copied c.from_residual.ensures
    ∙ sym (ap linked (none_of_spec c.args.self.now c.trees-kept.ensures.owned c.args.place.now c.in_err-spec.ensures s))

pub returns-in_err-owner : goal.returns-in_err-owner
returns-in_err-owner c = λ s.
    ap option_copied c.from_residual-in_err-owner.ensures
    ∙ sym
    (ap linked
    (none_at_place c.args.self.now c.trees-kept.ensures.owned c.args.place.now c.in_ok-spec.spec.now c.in_ok-spec.number c.in_ok-spec.ensures
    (sym c.in_err-owner.ensures) s))

pub returns : goal.returns
returns c = λ s.
    let known = c.args.self.now in
    let owner = c.in_ok-owner.owner in
    c.tree_of.ensures
    ∙ ap (λ ts. linked (rules_for owner c.args.place.now.kind ts)) c.trees-kept.ensures.same
    ∙ sym
    (ap linked
    (rules_here known c.trees-kept.ensures.owned c.args.place.now owner
    (named_here known c.args.place.now c.in_ok-spec.spec.now c.in_ok-spec.number c.in_ok-spec.ensures owner (sym c.in_ok-owner.ensures)) s))
