use Rattle.std.proofs.Common.{Bool, Ok, ap, subst, sym}
use Rattle.yw_known.proofs.Loads.{known_loaded}
use Rattle.yw_known.proofs.known.Known.load_as.Goals as goal
use Rattle.yw_known.specs.Upstreams.{AreKnown}
use Rattle.yw_library.specs.Always.{IsTried}
use Rattle.yw_library.specs.Holdings.{Holdings}
use Rattle.yw_state.specs.declared.event.Event.TheVariants as events

pub invariant_of-self-in-Continue-branch-2 : goal.invariant_of-self-in-Continue-branch-2
invariant_of-self-in-Continue-branch-2 c =
    let rows = c.keep_upstreams.new.rows in
    let old = c.self.inside.library in
    let new = c.load_as.new.self in
    let leads = subst (λ (b : Bool). IsTried old (events.Load c.args.name.now c.args.text.now) b new) c.if-leads.true c.in_ok-leads.ensures.tried in
    subst (λ (z : Holdings). AreKnown z.specs rows) (sym c.in_ok-keep_upstreams.ensures.same)
    (known_loaded old new c.self.inside.rows rows c.args.name.now c.args.text.now (c.in_ok-leads.ensures.place (ap Ok c.if-leads.true)) leads c.self.invariant
    c.in_ok-keep_upstreams.ensures.ok)
