use Rattle.std.proofs.Common.{sym, ◌∙◌}
use Rattle.yw_cases.proofs.EntryLaw.{held_back}
use Rattle.yw_cases.proofs.entering.may_enter.Goals as goal

pub returns-then-is_held : goal.returns-then-is_held
returns-then-is_held c =
    held_back c.args.standing.now c.requires c.args.at.now c.args.name.now c.args.places.now c.args.first c.args.count (sym c.is_held.ensures ∙ c.if-is_held.true)

pub may_enter_free-requires-clause-unheld : goal.may_enter_free-requires-clause-unheld
may_enter_free-requires-clause-unheld c = sym c.is_held.ensures ∙ c.if-is_held.false
