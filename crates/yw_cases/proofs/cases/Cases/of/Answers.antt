use Rattle.std.proofs.Common.{subst, sym}
use Rattle.yw_cases.proofs.cases.Cases.of.Goals as goal
use Rattle.yw_cases.specs.State.{MayStand, standing_of}
use Rattle.yw_library.specs.Holdings.{Holdings}
use Rattle.yw_standing.specs.State.{state_of}
use Rattle.yw_standing.specs.declared.standing.Standing.{Standing}

pub invariant_of-result : goal.invariant_of-result
invariant_of-result c =
    let standing : Standing = record (standing_of c.args.parts) { known = c.in_ok-of.field-0 } in
    record {
      stands = subst (λ (known : Holdings). MayStand (record (standing_of c.args.parts) { known = known })) (sym c.in_ok-of.ensures) c.requires;
      rested = c.new.ensures (state_of standing);
    }
