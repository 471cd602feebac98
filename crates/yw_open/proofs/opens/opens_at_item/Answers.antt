use Rattle.std.proofs.Common.{◌∙◌, ap, subst, sym}
use Rattle.std.proofs.lemmas.Result.{IfOk-weaker}
use Rattle.yw_base.specs.Identity.{is_identity}
use Rattle.yw_known.proofs.Standing.{no_net_here}
use Rattle.yw_open.proofs.AtItem.{item_tells, its_net}
use Rattle.yw_open.proofs.opens.opens_at_item.Goals as goal
use Rattle.yw_open.specs.Entries.{TellsState}
use Rattle.yw_open.specs.Items.{TellsItem}
use Rattle.yw_open.specs.Opens.{AreOpens}

pub returns-in-Some : goal.returns-in-Some
returns-in-Some c =
    let known = c.args.known.now in
    let h = c.args.here.now in
    IfOk-weaker c.opens_in_net.result (TellsState known c.in-Some.state.now) (TellsItem known h)
    (λ opens tells f s j w is.
    tells f s j w (ap is_identity (sym is.identity) ∙ is.stands.identity) (its_net f j w.held.boxed h.item.now is.found ∙ sym c.in-Some.ensures))
    c.opens_in_net.ensures

pub returns-in-None : goal.returns-in-None
returns-in-None c =
    let known = c.args.known.now in
    let h = c.args.here.now in
    IfOk-weaker c.item_opens.result _ (TellsItem known h)
    (λ opens listed f s j w is.
    let none = no_net_here known f s w.held j (its_net f j w.held.boxed h.item.now is.found ∙ sym c.in-None.ensures) in
    subst (AreOpens s j) (sym listed) (item_tells s j none known f h is))
    c.item_opens.ensures
