use Rattle.std.proofs.Common.{◌≡◌, Result, Ok, Err}
use Rattle.std.specs.Prelude.{IfOk}
use Rattle.yw_lines.proofs.Asking.{asks_properly}
use Rattle.yw_lines.specs.Meaning.{AsksProperly}
use Rattle.yw_state.specs.declared.command.Asked.{Asked}
use Rattle.yw_state.specs.declared.rule.Rule.{Rule}
use Rattle.yw_wire.specs.Faults.{Gives}
use Rattle.yw_wire.specs.declared.fault.WireFault.{WireFault}
use Rattle.yw_wire.proofs.read.read_command.Goals as goal

properly : (result : Result Asked WireFault) (said : Result Asked Rule) → Gives result said → ((asked : Asked) → said ≡ Ok asked → AsksProperly asked) → IfOk result AsksProperly
properly (Ok asked) said gives h = h asked gives
properly (Err fault) said gives h = tt

pub returns-clause-proper : goal.returns-clause-proper
returns-clause-proper c = properly c.line_asked.result _ c.line_asked.ensures.gives (λ asked is. (asks_properly c.args.built.now c.args.line.now asked is).0)
