use Rattle.std.proofs.Common.{subst, sym}
use Rattle.std.proofs.lemmas.Result.{IfOk-weaker}
use Rattle.yw_known.proofs.Standing.{no_net_here}
use Rattle.yw_open.proofs.AtItem.{nothing_open}
use Rattle.yw_open.proofs.opens.opens_without_item.Goals as goal
use Rattle.yw_open.specs.Entries.{TellsState}
use Rattle.yw_open.specs.Items.{TellsNoItem}
use Rattle.yw_open.specs.Opens.{AreOpens}

pub returns-in-Some : goal.returns-in-Some
returns-in-Some c =
    let known = c.args.known.now in
    let f = c.args.forest.now in
    let j = c.args.at.now in
    IfOk-weaker c.opens_in_net.result (TellsState known c.in-Some.state.now) (TellsNoItem known f j)
    (λ opens tells s w without. tells f s j w c.numbers.ensures.identity (sym c.in-Some.ensures))
    c.opens_in_net.ensures

pub returns-in-None : goal.returns-in-None
returns-in-None c = λ s w without.
    let j = c.args.at.now in
    let none = no_net_here c.args.known.now c.args.forest.now s w.held j (sym c.in-None.ensures) in
    subst (AreOpens s j) (sym c.new.ensures) (nothing_open s j none without)
