use Rattle.std.proofs.Common.{sym, ◌∙◌, ap}
use Rattle.yw_read.proofs.KeyLemmas.{first_unknown, first_unknown-view, goes_on, stops}
use Rattle.yw_read.proofs.UnknownLemmas.{unknown_key-least, unknown_key-none}
use Rattle.yw_read.proofs.keys.unknown_key.Goals as goal

pub returns-then-not-is_among-clause-value : goal.returns-then-not-is_among-clause-value
returns-then-not-is_among-clause-value c =
    stops c.args.known.now c.in-Some.key.now c.loop-key.key-iterator c.next.new.self _ _ _ c.in-Some.ensures.steps c.loop-key.invariant c.as_str.ensures.value c.is_among.ensures c.if-not-is_among.true
    ∙ first_unknown-view c.args.known.now c.args.table.now.entries c.keys-key-items.ensures.ordered

pub returns-then-not-is_among-clause-least : goal.returns-then-not-is_among-clause-least
returns-then-not-is_among-clause-least c = unknown_key-least _ _ _ (returns-then-not-is_among-clause-value c)

pub loop-key-preserved : goal.loop-key-preserved
loop-key-preserved c =
    goes_on c.args.known.now c.in-Some.key.now c.loop-key.key-iterator c.next.new.self _ _ _ c.in-Some.ensures.steps c.loop-key.invariant c.as_str.ensures.value c.is_among.ensures c.if-not-is_among.false

pub returns-clause-value : goal.returns-clause-value
returns-clause-value c =
    ap (first_unknown c.args.known.now) (sym c.in-None.ensures.steps.0) ∙ c.loop-key.invariant ∙ first_unknown-view c.args.known.now c.args.table.now.entries c.keys-key-items.ensures.ordered

pub returns-clause-none : goal.returns-clause-none
returns-clause-none c = unknown_key-none _ _ (returns-clause-value c)
