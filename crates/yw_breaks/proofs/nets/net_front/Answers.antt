use Rattle.std.proofs.Common.{None, Some, ap, sym}
use Rattle.std.specs.Prelude.{is_none}
use Rattle.yw_breaks.proofs.Fronts.{by_missing, by_none, by_stranger}
use Rattle.yw_breaks.proofs.Held.{net_stands, stranger_is}
use Rattle.yw_breaks.proofs.nets.net_front.Goals as goal
use Rattle.yw_known.specs.Here.{as_net_at}
use Rattle.yw_state.specs.declared.rule.Rule.TheVariants as rules

pub returns-in_default-clause-finds : goal.returns-in_default-clause-finds
returns-in_default-clause-finds c = λ s h.
    by_stranger _ _ rules.UnknownCase (stranger_is c.args.known.now c.args.forest.now s h c.args.who.now None (sym c.in_default.ensures))

pub returns-in-Some-net_there-clause-finds : goal.returns-in-Some-net_there-clause-finds
returns-in-Some-net_there-clause-finds c =
    let known = c.args.known.now in
    let f = c.args.forest.now in
    let who = c.args.who.now in
    let i = c.args.at.now in
    let here = c.in-Some-net_there.here in
    let roles = c.in-Some.roles.now in
    record {
      unbroken = λ s h. by_none _ _ rules.UnknownCase (stranger_is known f s h who (Some roles) (sym c.in-Some.ensures))
          (net_stands s i (as_net_at known here) (c.in-Some-net_there.ensures.here s h).at);
      roles = sym c.in-Some.ensures;
      says = c.in-Some-net_there.ensures.here;
    }

pub returns-in-None-clause-finds : goal.returns-in-None-clause-finds
returns-in-None-clause-finds c = λ s h.
    by_missing _ _ rules.UnknownCase
    (stranger_is c.args.known.now c.args.forest.now s h c.args.who.now (Some c.in-Some.roles.now) (sym c.in-Some.ensures))
    (ap is_none (c.in-None.ensures.here s h))
