-- The rule that a start breaks first behind the check that the case is quiet, by what stands at the item.
use Rattle.std.specs.Prelude.{ℕ, Bool, List, Option}
use Rattle.std.specs.Option.{option_or}
use Rattle.yw_breaks.specs.Persons.{worker_rule}
use Rattle.yw_known.specs.declared.here.ItemHere.{ItemHere}
use Rattle.yw_state.specs.declared.rule.Rule.{Rule}
use Rattle.yw_task.specs.Asked.{start_fault}

-- of who has these roles, by whether work at the item is held
abbrev pub start_rule : List (List ℕ) → ItemHere → Bool → Option Rule
start_rule roles h held = option_or (worker_rule roles h.task.now held) (start_fault h.item.now)
