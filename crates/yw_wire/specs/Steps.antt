-- The steps of an exlet as fields say them.
use Rattle.std.specs.Prelude.{ℕ, ◌&&◌, List, length, take, Bool, Option, Some, None, if◌then◌else◌, option_map}
use Rattle.std.specs.Str.{bytes_eq}
use Rattle.serde_json.specs.Data.{Data}
use Rattle.serde_json.specs.Find.{as_str}
use Rattle.yw_base.specs.Spelling.{is_name}
use Rattle.yw_lines.specs.Fields.{list_of}
use Rattle.yw_lines.specs.Primitives.{behind_compensate, compensate_front, primitive_in}
use Rattle.yw_state.specs.declared.tree.Primitive.{Primitive}

-- `compensate` and one blank stand in front
abbrev pub has_front : List ℕ → Bool
has_front text = bytes_eq (take (length compensate_front) text) compensate_front

-- the name behind `compensate` and one blank
abbrev pub compensated : List ℕ → Option (List ℕ)
compensated text = if has_front text && is_name (behind_compensate text) then Some (behind_compensate text) else None

-- one step, a text
abbrev pub step_of : Data → Option Primitive
step_of d = option_map primitive_in (as_str d)

abbrev pub steps_of : Data → Option (List Primitive)
steps_of = list_of step_of
