use Rattle.std.proofs.Common.{[], get_or, subst, sym, take, take_all}
use Rattle.std.proofs.lemmas.List.{take_more}
use Rattle.yw_worklist.proofs.Looking.{more_cases_looked, none_looked}
use Rattle.yw_worklist.proofs.lists.Lists.look_cases.Goals as goal
use Rattle.yw_worklist.specs.Lists.{Looks, StandsIn}

pub loop-n-init : goal.loop-n-init
loop-n-init c = none_looked c.args.known.now c.args.forest.now c.args.self.now (StandsIn []) (λ s j held there. there.2)

pub loop-n-preserved : goal.loop-n-preserved
loop-n-preserved c =
    let cases = c.args.cases.now in
    let i = c.loop-n.n-index in
    subst (λ ns. Looks c.args.known.now c.args.forest.now c.args.self.now c.look_case.new.self (StandsIn ns)) (sym (take_more cases i 0 c.loop-n-test.true))
    (more_cases_looked c.args.known.now c.args.forest.now c.args.self.now c.loop-n.self c.look_case.new.self (take i cases) (get_or cases i 0)
    c.loop-n.invariant c.in_ok-look_case.ensures)

pub returns : goal.returns
returns c =
    subst (λ ns. Looks c.args.known.now c.args.forest.now c.args.self.now c.loop-n.self (StandsIn ns))
    (take_all c.loop-n.n-index c.args.cases.now c.loop-n-test.false) c.loop-n.invariant
