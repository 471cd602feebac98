use Rattle.std.proofs.Common.{refl, subst}
use Rattle.yw_library.proofs.HoldingsLemmas.{spec-found}
use Rattle.yw_library.proofs.library.Library.are_named.Goals as goal
use Rattle.yw_library.specs.Holdings.{Holdings, spec_name}
use Rattle.yw_library.specs.Numbers.{AreFound}

pub returns : goal.returns
returns c = λ k l at.
    let found = subst (λ (h : Holdings). AreFound spec_name h.specs c.self.inside.spec_numbers) c.self.view_is c.self.invariant.specs_found in
    spec-found c.args.self.now c.self.inside.spec_numbers l.spec.name k l found at (l, at, refl)
