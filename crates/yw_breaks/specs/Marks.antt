-- The rule that a command breaks first which suspends something or lets it go on, by what stands at its identity.
use Rattle.std.specs.Prelude.{◌≡◌, ◌&&◌, Bool, None, Option, Some, Result, Ok, Err, not, if◌then◌else◌}
use Rattle.yw_state.specs.Identity.{Ident, is_case_ident}
use Rattle.yw_state.specs.State.{State, is_case, is_item, is_suspended}
use Rattle.yw_state.specs.declared.rule.Rule.{Rule}
use Rattle.yw_state.specs.declared.rule.Rule.TheVariants as rules

-- ---- what stands there

-- j is one number, and no case has it
abbrev pub no_case : State → Ident → Bool
no_case s j = is_case_ident j && not (is_case s j)

-- j is several numbers, and no item has it
abbrev pub no_item : State → Ident → Bool
no_item s j = not (is_case_ident j) && not (is_item s j)

abbrev pub unknown_of : Bool → Bool → Option Rule
unknown_of no_case no_item = if no_case then Some rules.UnknownCase else (if no_item then Some rules.UnknownItem else None)

-- what is broken where neither a case nor an item stands at j
abbrev pub target_rule : State → Ident → Option Rule
target_rule s j = unknown_of (no_case s j) (no_item s j)

-- the same, where it is known that neither does, by whether the identity is one number
abbrev pub unknown_rule : Bool → Rule
unknown_rule one = if one then rules.UnknownCase else rules.UnknownItem

-- a case or an item stands at j, and this is whether it is suspended; or this rule is broken
abbrev pub FindsMark : State → Ident → Result Bool Rule → Type 0
FindsMark s j (Ok suspended) = (target_rule s j ≡ None) × (is_suspended s j ≡ suspended)
FindsMark s j (Err rule) = target_rule s j ≡ Some rule

-- ---- the rule

-- `Mark`, where the mark is the wrong one
abbrev pub mark_rule : Bool → Option Rule
mark_rule wrong = if wrong then Some rules.Mark else None

-- by what is found, what is broken by who suspends it
abbrev pub suspend_rule : Result Bool Rule → Option Rule
suspend_rule (Ok suspended) = mark_rule suspended
suspend_rule (Err rule) = Some rule

-- and by who lets it go on
abbrev pub continue_rule : Result Bool Rule → Option Rule
continue_rule (Ok suspended) = mark_rule (not suspended)
continue_rule (Err rule) = Some rule
