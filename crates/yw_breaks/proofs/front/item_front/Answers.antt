use Rattle.std.proofs.Common.{None, Some, ap, sym}
use Rattle.std.specs.Prelude.{not}
use Rattle.yw_breaks.proofs.Fronts.{by_missing, by_none, by_stranger}
use Rattle.yw_breaks.proofs.Held.{item_known, stranger_is}
use Rattle.yw_breaks.proofs.front.item_front.Goals as goal
use Rattle.yw_known.specs.Here.{as_item_at}
use Rattle.yw_state.specs.declared.rule.Rule.TheVariants as rules

pub returns-in_default : goal.returns-in_default
returns-in_default c = λ s h.
    by_stranger _ _ rules.UnknownItem (stranger_is c.args.known.now c.args.forest.now s h c.args.who.now None (sym c.in_default.ensures))

pub returns-in-Some-item_here : goal.returns-in-Some-item_here
returns-in-Some-item_here c =
    let known = c.args.known.now in
    let f = c.args.forest.now in
    let who = c.args.who.now in
    let j = c.args.item.now in
    let here = c.in-Some-item_here.here in
    let roles = c.in-Some.roles.now in
    record {
      unbroken = λ s h. by_none _ _ rules.UnknownItem (stranger_is known f s h who (Some roles) (sym c.in-Some.ensures))
          (ap not (item_known s j (as_item_at known here) (c.in-Some-item_here.ensures s h).at));
      roles = sym c.in-Some.ensures;
      says = c.in-Some-item_here.ensures;
    }

pub returns-in-None : goal.returns-in-None
returns-in-None c = λ s h.
    by_missing _ _ rules.UnknownItem
    (stranger_is c.args.known.now c.args.forest.now s h c.args.who.now (Some c.in-Some.roles.now) (sym c.in-Some.ensures))
    (ap not (c.in-None.ensures s h))
