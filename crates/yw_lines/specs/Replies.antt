-- The lines that are said: compact JSON, keys in byte order, and a newline. Our own.
use Rattle.std.specs.Prelude.{ℕ, List, [], ◌∷◌, ◌++◌, map, Bool, true, false, codes}
use Rattle.serde_json.specs.Data.{Data, unsigned, boolean, number, string, array, object, no_members, member}
use Rattle.serde_json.specs.View.{items_of}
use Rattle.serde_json.specs.Written.{compact_text}
use Rattle.yw_lines.specs.EventTexts.{step_text}
use Rattle.yw_state.specs.RuleNames.{rule_text}
use Rattle.yw_state.specs.declared.rule.Refusal.{Refusal}
use Rattle.yw_state.specs.declared.event.Event.{Event}

-- an accepted command's answer
abbrev pub done_data : ℕ → List Event → Bool → Data
done_data n events quiet =
    object (member (codes "n") (number (unsigned n))
    (member (codes "ok") (boolean true)
    (member (codes "quiet") (boolean quiet)
    (member (codes "steps") (array (items_of (map (λ e. string (step_text e)) events))) no_members))))

-- a refused line's answer
abbrev pub refused_data : ℕ → Refusal → Data
refused_data n refusal =
    object (member (codes "at") (string refusal.at)
    (member (codes "n") (number (unsigned n))
    (member (codes "ok") (boolean false)
    (member (codes "rule") (string (rule_text refusal.rule)) no_members))))

abbrev pub line_of : Data → List ℕ
line_of d = compact_text d ++ 10 ∷ []

unfoldable pub done_line : ℕ → List Event → Bool → List ℕ
done_line n events quiet = line_of (done_data n events quiet)

unfoldable pub refused_line : ℕ → Refusal → List ℕ
refused_line n refusal = line_of (refused_data n refusal)
