use Rattle.std.proofs.Common.{◌≡◌, ℕ, arith, subst}
use Rattle.yw_office.proofs.Standing.{more_below}
use Rattle.yw_office.proofs.cases.cases_below.Goals as goal
use Rattle.yw_office.specs.Cases.{HasCases}

pub loop-n-init : goal.loop-n-init
loop-n-init c = λ n lt some. absurd (omega (arith, lt))

pub loop-n-preserved : goal.loop-n-preserved
loop-n-preserved c =
    more_below c.args.forest.now c.loop-n.n c.loop-n.cases.items c.add_case.new.cases.items c.loop-n.invariant c.in_ok-add_case.ensures

pub returns : goal.returns
returns c =
    let all : c.loop-n.n ≡ c.args.next = omega (arith, c.loop-n-test.false, c.loop-n.auto.n-end) in
    subst (λ (k : ℕ). HasCases c.args.forest.now k c.loop-n.cases.items) all c.loop-n.invariant
