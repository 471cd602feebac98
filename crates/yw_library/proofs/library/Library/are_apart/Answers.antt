use Rattle.std.proofs.Common.{subst}
use Rattle.yw_library.proofs.HoldingsLemmas.{apart_by}
use Rattle.yw_library.proofs.library.Library.are_apart.Goals as goal
use Rattle.yw_library.specs.Holdings.{Holdings, spec_name}
use Rattle.yw_library.specs.Numbers.{AreFound}

pub returns : goal.returns
returns c =
    apart_by c.args.self.now.specs c.self.inside.spec_numbers
    (subst (λ (h : Holdings). AreFound spec_name h.specs c.self.inside.spec_numbers) c.self.view_is c.self.invariant.specs_found)
