use Rattle.std.proofs.lemmas.Result.{IfOk-weaker}
use Rattle.yw_known.proofs.Standing.{net_is_here, numbered}
use Rattle.yw_known.specs.declared.here.NetHere.{NetHere}
use Rattle.yw_open.proofs.nets.opens_in_net.Goals as goal
use Rattle.yw_open.specs.Entries.{TellsNet, TellsState}

pub returns : goal.returns
returns c =
    let known = c.args.known.now in
    let found = c.in-Some.found in
    let h : NetHere = record { state = c.args.state; net = found.net; up = found.up; spec = found.spec } in
    IfOk-weaker c.entries_at.result (TellsNet h) (TellsState known c.args.state.now)
    (λ opens tells f s j w identity stands.
    tells known f s j (record { asked = w; here = net_is_here known f s w.held j identity h stands c.in-Some.ensures }))
    c.entries_at.ensures

pub returns-in_default : goal.returns-in_default
returns-in_default c = λ f s j w identity stands.
    absurd (numbered c.args.known.now f s w.held j identity c.args.state.now stands c.are_named.ensures c.in_default.ensures)
