use Rattle.std.proofs.Common.{sym, ◌∙◌}
use Rattle.yw_deeds.proofs.RunsGo.{fails_so, passes_so, tells_prim}
use Rattle.yw_deeds.proofs.runs.may_prim.Goals as goal
use Rattle.yw_deeds.specs.Runs.{takes_next}

pub returns-in-Some : goal.returns-in-Some
returns-in-Some c =
    let h = c.args.standing.now in
    let r = c.args.r.now in
    let p = c.args.primitive.now in
    tells_prim h r p c.takes_next.result
    (passes_so h c.requires r c.numbers.ensures.identity c.in-Some.run'.now (sym c.in-Some.ensures) (takes_next p) ∙ sym c.takes_next.ensures)

pub returns-in-None : goal.returns-in-None
returns-in-None c =
    let h = c.args.standing.now in
    let r = c.args.r.now in
    let p = c.args.primitive.now in
    tells_prim h r p _ (fails_so h c.requires r c.numbers.ensures.identity (sym c.in-None.ensures) (takes_next p))
