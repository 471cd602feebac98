use Rattle.std.proofs.Common.{ap, arith, length, subst, sym, ◌<◌, ◌∙◌}
use Rattle.std.specs.BTreeSet.{BTreeSet, Updates}
use Rattle.std.specs.Prelude.{false, slice_get}
use Rattle.yw_loose.proofs.Looking.{found_there, none_there, other_passes, recounts, resting_passes}
use Rattle.yw_loose.proofs.Sets.{first_popped, none_first}
use Rattle.yw_loose.proofs.loose.Loose.first_event.Goals as goal
use Rattle.yw_loose.specs.Loose.{Forgets}
use Rattle.yw_loose.specs.Next.{FindsCounted}
use Rattle.yw_state.proofs.Tests.{never}
use Rattle.yw_state.specs.Identity.{Ident}
use Rattle.yw_state.specs.Map.{lexical}

-- another case's is taken out
popped : (c : goal.Joined-pop_first) → Updates lexical c.forget_case.new.self.idents c.pop_first.new.self c.in-Some.id.now false
    × (length c.pop_first.new.self.keys < length c.forget_case.new.self.idents.keys)
popped c =
    first_popped c.forget_case.new.self.idents c.pop_first.new.self c.in-Some.id.now c.pop_first.result
    (ap (λ (ids : BTreeSet Ident). slice_get ids.keys 0) c.forget_case.ensures.idents ∙ c.in-Some.ensures.first)
    c.pop_first.ensures.variant c.pop_first.ensures.removal c.pop_first.ensures.updates

pub idents-smaller-then-case-n : goal.idents-smaller-then-case-n
idents-smaller-then-case-n c =
    let fewer = (popped c).1 in
    let same = ap (λ (ids : BTreeSet Ident). length ids.keys) c.forget_case.ensures.idents in
    omega (arith, fewer, same)

pub idents-preserved-then-case-n : goal.idents-preserved-then-case-n
idents-preserved-then-case-n c =
    other_passes c.args.known.now c.args.forest.now c.args.n c.args.next c.args.self.now c.idents.self c.idents.invariant c.forget_case.new.self
    c.pop_first.new.self c.in-Some.id.now (λ same. c.if-case-n.true (c.case_number-case.ensures ∙ sym same))
    (subst (Forgets c.idents.self c.forget_case.new.self) c.case_number-case.ensures c.forget_case.ensures) (popped c).0

pub idents-preserved-in_default-found : goal.idents-preserved-in_default-found
idents-preserved-in_default-found c =
    resting_passes c.args.known.now c.args.forest.now c.args.n c.args.next c.args.self.now c.idents.self c.idents.invariant c.event_counted.new.counts
    c.pop_first-in-Some.new.self c.in-Some.id.now (sym c.case_number-case.ensures ∙ c.if-case-n.false) c.in_ok-found.ensures.right
    (first_popped c.idents.self.idents c.pop_first-in-Some.new.self c.in-Some.id.now c.pop_first-in-Some.result c.in-Some.ensures.first
    c.pop_first-in-Some.ensures.variant c.pop_first-in-Some.ensures.removal c.pop_first-in-Some.ensures.updates).0
    (subst (FindsCounted c.args.known.now c.args.forest.now c.in-Some.id.now c.args.next c.idents.self.counts) c.in_default-found.is c.in_ok-found.ensures.found)

pub returns-in_err-found-clause-rested : goal.returns-in_err-found-clause-rested
returns-in_err-found-clause-rested c =
    (recounts c.args.known.now c.args.forest.now c.args.n c.args.next c.args.self.now c.idents.self c.idents.invariant c.event_counted.new.counts
    c.in_err-found.ensures.right).rested

pub returns-in-Some-found-clause-rested : goal.returns-in-Some-found-clause-rested
returns-in-Some-found-clause-rested c =
    (recounts c.args.known.now c.args.forest.now c.args.n c.args.next c.args.self.now c.idents.self c.idents.invariant c.event_counted.new.counts
    c.in_ok-found.ensures.right).rested

pub returns-in-Some-found-clause-found : goal.returns-in-Some-found-clause-found
returns-in-Some-found-clause-found c =
    found_there c.args.known.now c.args.forest.now c.args.n c.args.next c.args.self.now c.idents.self c.idents.invariant c.in-Some.id.now
    c.in-Some-found.found (sym c.case_number-case.ensures ∙ c.if-case-n.false)
    (subst (FindsCounted c.args.known.now c.args.forest.now c.in-Some.id.now c.args.next c.idents.self.counts) c.in-Some-found.is c.in_ok-found.ensures.found)

pub returns-clause-found : goal.returns-clause-found
returns-clause-found c =
    none_there c.args.known.now c.args.forest.now c.args.n c.args.next c.args.self.now c.idents.self c.idents.invariant
    (none_first c.idents.self.idents.keys (λ some. never (c.in_default.ensures.variant.1 some)))
