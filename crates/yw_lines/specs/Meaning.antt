-- What a line means: nothing, by a rule, or a command or a query. A line is a JSON object, as `serde_json` reads it, with
-- `cmd` and exactly the fields of its word. A word that isn't among those built is refused before its fields are looked at. Our own.
use Rattle.std.specs.Prelude.{◌≡◌, ℕ, List, length, Bool, true, nat_le, nat_lt, if◌then◌else◌, Option, Some, None, Result, Err, ok_or, codes}
use Rattle.std.specs.List.{list_all, list_any}
use Rattle.std.specs.Str.{bytes_eq, is_utf8}
use Rattle.serde_json.specs.Data.{Data}
use Rattle.serde_json.specs.Read.{read}
use Rattle.yw_state.specs.declared.command.Asked.{Asked}
use Rattle.yw_state.specs.declared.command.Asked.TheVariants as asked
use Rattle.yw_state.specs.declared.command.Command.{Command}
use Rattle.yw_state.specs.declared.command.Command.TheVariants as commands
use Rattle.yw_state.specs.declared.rule.Rule.{Rule}
use Rattle.yw_state.specs.declared.rule.Rule.TheVariants.{LineTooLong, NotJson, NotCommand, NotBuilt}
use Rattle.yw_lines.specs.declared.word.Word.{Word}
use Rattle.yw_lines.specs.Fields.{field, one_of}
use Rattle.yw_base.specs.Spelling.{is_name}
use Rattle.yw_state.specs.Allowed.{are_roles, is_raised}
use Rattle.yw_lines.specs.Lines.{line_limit}
use Rattle.yw_lines.specs.Shapes.{shape_of}
use Rattle.yw_lines.specs.Words.{word_in, word_text}

abbrev pub is_built : List Word → Word → Bool
is_built built word = list_any (λ other. bytes_eq (word_text other) (word_text word)) built

-- by the word under `cmd`
abbrev pub word_meaning : List Word → Data → Option Word → Result Asked Rule
word_meaning built d None = Err NotCommand
word_meaning built d (Some word) = if is_built built word then ok_or (shape_of word d) NotCommand else Err NotBuilt

abbrev pub value_meaning : List Word → Option Data → Result Asked Rule
value_meaning built None = Err NotJson
value_meaning built (Some d) = word_meaning built d (field (one_of word_in) (codes "cmd") d)

-- `serde_json` reads text, and bytes that are no UTF-8 are none
unfoldable pub text_meaning : List Word → List ℕ → Result Asked Rule
text_meaning built line = if is_utf8 line then value_meaning built (read line) else Err NotJson

unfoldable pub meaning : List Word → List ℕ → Result Asked Rule
meaning built line = if nat_lt line_limit (length line) then Err LineTooLong else text_meaning built line

-- a command as a line gives it: names are names, roles are roles, a text is no longer than a line, and what is raised can be
abbrev pub IsProper : Command → Type 0
IsProper (commands.Person name roles) = (is_name name ≡ true) × (list_all is_name roles ≡ true) × (are_roles roles ≡ true)
IsProper (commands.Load text) = nat_le (length text) line_limit ≡ true
IsProper (commands.Raise at kind) = is_raised kind ≡ true
IsProper command = Unit {0}

-- what is asked is proper
abbrev pub AsksProperly : Asked → Type 0
AsksProperly (asked.Command command) = IsProper command
AsksProperly (asked.Query query) = Unit {0}
