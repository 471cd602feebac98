-- What lines ask, by their words: a JSON object with `cmd` and exactly these fields. Our own.
use Rattle.std.specs.Prelude.{ℕ, if◌then◌else◌, Option, Some, None, codes}
use Rattle.serde_json.specs.Data.{Data}
use Rattle.serde_json.specs.Find.{as_str}
use Rattle.yw_state.specs.declared.command.Asked.{Asked}
use Rattle.yw_state.specs.declared.command.Asked.TheVariants.{Command, Query}
use Rattle.yw_state.specs.declared.command.Command.TheVariants as commands
use Rattle.yw_state.specs.declared.command.Query.TheVariants as queries
use Rattle.yw_lines.specs.declared.word.Word.{Word}
use Rattle.yw_lines.specs.declared.word.Word.TheVariants as words
use Rattle.yw_lines.specs.Kinds.{kind_words, raised_words}
use Rattle.yw_lines.specs.Fields.{has_members, field, line_text_of, name_of, optional_name_of, identity_of, one_of, side_words, node_of, roles_of, givens_of, any_value_of, conclusion_of}

-- A field says a value, or the line is of another shape.
infixl 10 ◌>>=◌
abbrev pub ◌>>=◌ : {A B : Type 0} → Option A → (A → Option B) → Option B
(Some x) >>= f = f x
None >>= f = None

-- this is asked, where the object has so many members
abbrev pub asked_by : ℕ → Data → Asked → Option Asked
asked_by n d asked = if has_members n d then Some asked else None

unfoldable pub person_shape : Data → Option Asked
person_shape d = do
  name ← field name_of (codes "name") d
  roles ← field roles_of (codes "roles") d
  asked_by 3 d (Command (commands.Person name roles))

unfoldable pub load_shape : Data → Option Asked
load_shape d = do
  toml ← field line_text_of (codes "toml") d
  asked_by 2 d (Command (commands.Load toml))

unfoldable pub rule_shape : Data → Option Asked
rule_shape d = do
  spec ← field name_of (codes "spec") d
  net ← field optional_name_of (codes "net") d
  task ← field optional_name_of (codes "task") d
  kind ← field (one_of kind_words) (codes "kind") d
  at ← field node_of (codes "at") d
  side ← field (one_of side_words) (codes "side") d
  when ← field as_str (codes "when") d
  conclusion ← field conclusion_of (codes "then") d
  asked_by 9 d (Command (commands.Rule spec net task kind at side when conclusion))

unfoldable pub launch_shape : Data → Option Asked
launch_shape d = do
  spec ← field name_of (codes "spec") d
  values ← field givens_of (codes "data") d
  asked_by 3 d (Command (commands.Launch spec values))

unfoldable pub enter_shape : Data → Option Asked
enter_shape d = do
  who ← field name_of (codes "who") d
  net ← field identity_of (codes "case") d
  task ← field name_of (codes "task") d
  asked_by 4 d (Command (commands.Enter who net task))

unfoldable pub start_shape : Data → Option Asked
start_shape d = do
  who ← field name_of (codes "who") d
  item ← field identity_of (codes "item") d
  asked_by 3 d (Command (commands.Start who item))

unfoldable pub complete_shape : Data → Option Asked
complete_shape d = do
  who ← field name_of (codes "who") d
  item ← field identity_of (codes "item") d
  out ← field givens_of (codes "out") d
  asked_by 4 d (Command (commands.Complete who item out))

unfoldable pub add_shape : Data → Option Asked
add_shape d = do
  who ← field name_of (codes "who") d
  net ← field identity_of (codes "case") d
  task ← field name_of (codes "task") d
  value ← field any_value_of (codes "value") d
  asked_by 5 d (Command (commands.Add who net task value))

unfoldable pub raise_shape : Data → Option Asked
raise_shape d = do
  at ← field identity_of (codes "at") d
  kind ← field (one_of raised_words) (codes "kind") d
  asked_by 3 d (Command (commands.Raise at kind))

unfoldable pub suspend_shape : Data → Option Asked
suspend_shape d = do
  at ← field identity_of (codes "at") d
  asked_by 2 d (Command (commands.Suspend at))

unfoldable pub continue_shape : Data → Option Asked
continue_shape d = do
  at ← field identity_of (codes "at") d
  asked_by 2 d (Command (commands.Continue at))

unfoldable pub cancel_shape : Data → Option Asked
cancel_shape d = do
  net ← field identity_of (codes "case") d
  asked_by 2 d (Command (commands.Cancel net))

unfoldable pub advance_shape : Data → Option Asked
advance_shape d = do
  net ← field identity_of (codes "case") d
  asked_by 2 d (Command (commands.Advance net))

unfoldable pub list_shape : Data → Option Asked
list_shape d = do
  who ← field name_of (codes "who") d
  asked_by 2 d (Query (queries.List who))

unfoldable pub show_shape : Data → Option Asked
show_shape d = do
  net ← field identity_of (codes "case") d
  asked_by 2 d (Query (queries.Show net))

unfoldable pub ended_shape : Data → Option Asked
ended_shape d = do
  net ← field identity_of (codes "case") d
  asked_by 2 d (Query (queries.Ended net))

unfoldable pub specs_shape : Data → Option Asked
specs_shape d = asked_by 1 d (Query queries.Specs)

abbrev pub shape_of : Word → Data → Option Asked
shape_of words.Person = person_shape
shape_of words.Load = load_shape
shape_of words.Rule = rule_shape
shape_of words.Launch = launch_shape
shape_of words.Enter = enter_shape
shape_of words.Start = start_shape
shape_of words.Complete = complete_shape
shape_of words.Add = add_shape
shape_of words.Raise = raise_shape
shape_of words.Suspend = suspend_shape
shape_of words.Continue = continue_shape
shape_of words.Cancel = cancel_shape
shape_of words.Advance = advance_shape
shape_of words.List = list_shape
shape_of words.Show = show_shape
shape_of words.Ended = ended_shape
shape_of words.Specs = specs_shape
