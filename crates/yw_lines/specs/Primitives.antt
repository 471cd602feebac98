-- How the steps of an exlet are written: a word, and behind `compensate` one blank and a name. The steps are
-- after the thesis, their spelling our own.
use Rattle.std.specs.Prelude.{ℕ, List, [], ◌∷◌, ◌++◌, length, drop, take, ◌&&◌, codes, unwrap_or, if◌then◌else◌}
use Rattle.std.specs.Str.{bytes_eq}
use Rattle.yw_base.specs.Spelling.{is_name}
use Rattle.yw_lines.specs.Words.{written}
use Rattle.yw_state.specs.declared.tree.Primitive.{Primitive}
use Rattle.yw_state.specs.declared.tree.Primitive.TheVariants as primitives

abbrev pub compensate_front : List ℕ
compensate_front = codes "compensate "

abbrev pub behind_compensate : List ℕ → List ℕ
behind_compensate text = drop (length compensate_front) text

-- `compensate`, one blank and a name
abbrev pub compensation_in : List ℕ → Primitive
compensation_in text =
    if bytes_eq (take (length compensate_front) text) compensate_front && is_name (behind_compensate text)
    then primitives.Compensate (behind_compensate text)
    else primitives.Unknown text

abbrev pub primitive_text : Primitive → List ℕ
primitive_text primitives.SuspendItem = codes "suspend_item"
primitive_text primitives.ContinueItem = codes "continue_item"
primitive_text primitives.RestartItem = codes "restart_item"
primitive_text primitives.CompleteItem = codes "complete_item"
primitive_text primitives.RemoveItem = codes "remove_item"
primitive_text primitives.SuspendCase = codes "suspend_case"
primitive_text primitives.ContinueCase = codes "continue_case"
primitive_text primitives.RemoveCase = codes "remove_case"
primitive_text (primitives.Compensate name) = compensate_front ++ name
primitive_text (primitives.Unknown text) = text

-- the primitives that are one word
abbrev pub plain_primitives : List Primitive
plain_primitives =
    primitives.SuspendItem ∷ primitives.ContinueItem ∷ primitives.RestartItem ∷ primitives.CompleteItem ∷ primitives.RemoveItem
    ∷ primitives.SuspendCase ∷ primitives.ContinueCase ∷ primitives.RemoveCase ∷ []

unfoldable pub primitive_in : List ℕ → Primitive
primitive_in text = unwrap_or (written primitive_text plain_primitives text) (compensation_in text)
