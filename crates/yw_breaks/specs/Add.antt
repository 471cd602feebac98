-- What an addition breaks first behind the check that the case is quiet, where the net has the task.
use Rattle.std.specs.Prelude.{◌≡◌, Bool, ℕ, List, None, Option, Some, codes, drop, is_none, not, option_map, slice_get, if◌then◌else◌}
use Rattle.std.specs.Option.{option_or}
use Rattle.yw_base.specs.declared.value.Value.{Value}
use Rattle.yw_breaks.specs.Launch.{number_rule}
use Rattle.yw_breaks.specs.Persons.{HasRoles, lacks_role}
use Rattle.yw_breaks.specs.Tables.{add_rest}
use Rattle.yw_library.specs.Held.{IsHeld}
use Rattle.yw_known.specs.Here.{IsNetHere}
use Rattle.yw_known.specs.declared.here.NetHere.{NetHere}
use Rattle.yw_library.specs.Holdings.{Holdings}
use Rattle.yw_spec.specs.declared.task.Task.{Task}
use Rattle.yw_state.specs.Broken.{First, placed, placeless}
use Rattle.yw_state.specs.Given.{element_value}
use Rattle.yw_state.specs.Identity.{Ident}
use Rattle.yw_state.specs.Options.{is_some_and}
use Rattle.yw_state.specs.State.{State}
use Rattle.yw_state.specs.Values.{Row}
use Rattle.yw_state.specs.declared.rule.Refusal.{Refusal}
use Rattle.yw_state.specs.declared.rule.Rule.{Rule}
use Rattle.yw_state.specs.declared.rule.Rule.TheVariants as rules
use Rattle.yw_task.specs.Adds.{room_rule}
use Rattle.yw_task.specs.Giving.{undefined_param}
use Rattle.yw_tree.specs.declared.Forest.{Forest}
use Rattle.yw_tree.specs.declared.NetState.{NetState}

-- items may be added to it
abbrev pub is_dynamic : Task → Bool
is_dynamic t = is_some_and t.many (λ m. m.dynamic)

-- the rules without a place, of who has these roles, by whether work in the net is held
abbrev pub add_rule : List (List ℕ) → NetState → Task → ℕ → Bool → Option Rule
add_rule roles state task t held =
    if not (is_dynamic task) then Some rules.NotDynamic else
    (if lacks_role roles task then Some rules.Role else (if held then Some rules.Held else room_rule state task t))

abbrev pub lacks_element : Task → Option Value → Bool
lacks_element task value = is_none (element_value task value)

-- of the parameters but the element, and the number
abbrev pub rest_fault : Task → Row → ℕ → Option Refusal
rest_fault task vals next = option_or (option_map (placed rules.Mapping) (undefined_param task vals)) (option_map placeless (number_rule next))

-- of the value, the other parameters and the number
abbrev pub value_fault : Task → Row → Option Value → ℕ → Option Refusal
value_fault task vals value next =
    option_or (option_map (placed rules.BadData) (if lacks_element task value then Some (codes "value") else None)) (rest_fault task vals next)

-- where the net stands at i in this forest, whoever with these roles adds to its task with this number, where this number is drawn next
abbrev pub AddBreaks : Forest → Ident → List (List ℕ) → NetHere → ℕ → Option Value → ℕ → Option Refusal → Type 0
AddBreaks f i roles h t value next found =
    (known : Holdings) (who : List ℕ) → HasRoles known who roles
    → (s : State) (task : Task) → IsHeld known f s → s.next ≡ next → IsNetHere known f s i h
    → slice_get h.net.now.tasks t ≡ Some task → First (drop 1 (add_rest s who i task.name value)) found
