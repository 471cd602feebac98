use Rattle.std.proofs.Common.{List, Option, subst, true, ℕ, ◌≡◌}
use Rattle.std.specs.Prelude.{SomeIff}
use Rattle.yw_base.specs.Identity.{is_identity, parent}
use Rattle.yw_deeds.proofs.runs.target_of.Goals as goal
use Rattle.yw_nest.proofs.Outer.{parent_identity}

pub unreachable-requires : goal.unreachable-requires
unreachable-requires c =
    let j = parent c.args.r.now in
    let none = subst (λ (o : Option (List ℕ)). SomeIff o (is_identity j ≡ true) j) c.in-None.is c.in_ok-above.ensures in
    none (parent_identity c.args.r.now c.numbers-numbers.ensures.identity c.requires)

pub returns : goal.returns
returns c =
    let j = parent c.args.r.now in
    (subst (λ (o : Option (List ℕ)). SomeIff o (is_identity j ≡ true) j) c.in-Some.is c.in_ok-above.ensures).1
