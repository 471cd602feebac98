use Rattle.std.proofs.lemmas.Result.{IfOk-weaker}
use Rattle.yw_open.proofs.opens.opens_at.Goals as goal
use Rattle.yw_open.specs.Items.{TellsItem, TellsNoItem}
use Rattle.yw_open.specs.Opens.{TellsOpens}

pub returns-in-Some : goal.returns-in-Some
returns-in-Some c =
    let known = c.args.known.now in
    let f = c.args.forest.now in
    let j = c.args.at.now in
    IfOk-weaker c.opens_at_item.result (TellsItem known c.in-Some.here) (TellsOpens known f j)
    (λ opens tells s w. tells f s j w (c.in-Some.ensures s w.held))
    c.opens_at_item.ensures

pub returns-in-None : goal.returns-in-None
returns-in-None c =
    let known = c.args.known.now in
    let f = c.args.forest.now in
    let j = c.args.at.now in
    IfOk-weaker c.opens_without_item.result (TellsNoItem known f j) (TellsOpens known f j)
    (λ opens tells s w. tells s w (c.in-None.ensures s w.held))
    c.opens_without_item.ensures
