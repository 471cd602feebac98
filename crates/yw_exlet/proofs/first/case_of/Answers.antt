use Rattle.std.proofs.Common.{subst, sym, true, ◌≡◌}
use Rattle.yw_base.specs.Identity.{is_number}
use Rattle.yw_exlet.proofs.Allowed.{first_number}
use Rattle.yw_exlet.proofs.first.case_of.Goals as goal

pub of_number-requires : goal.of_number-requires
of_number-requires c = subst (λ n. is_number n ≡ true) (sym c.case_number.ensures) (first_number c.args.r.now c.numbers-numbers.ensures.identity)
