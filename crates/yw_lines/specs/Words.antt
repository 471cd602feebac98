-- What words say, and the words under `cmd`, one for each command and each query. Our own.
use Rattle.std.specs.Prelude.{ℕ, List, [], ◌∷◌, Option, find, codes}
use Rattle.std.specs.Str.{bytes_eq}
use Rattle.yw_lines.specs.declared.word.Word.{Word}
use Rattle.yw_lines.specs.declared.word.Word.TheVariants as word
use Rattle.yw_state.specs.declared.command.Asked.{Asked}
use Rattle.yw_state.specs.declared.command.Asked.TheVariants as asked
use Rattle.yw_state.specs.declared.command.Command.{Command}
use Rattle.yw_state.specs.declared.command.Command.TheVariants as commands
use Rattle.yw_state.specs.declared.command.Query.{Query}
use Rattle.yw_state.specs.declared.command.Query.TheVariants as queries

-- the first of these that is written so
abbrev pub written : {A : Type 0} → (A → List ℕ) → List A → List ℕ → Option A
written text all word = find (λ x. bytes_eq word (text x)) all

abbrev pub words : List Word
words =
    word.Person ∷ word.Load ∷ word.Rule ∷ word.Launch ∷ word.Enter ∷ word.Start ∷ word.Complete ∷ word.Add ∷ word.Raise
    ∷ word.Suspend ∷ word.Continue ∷ word.Cancel ∷ word.Advance ∷ word.List ∷ word.Show ∷ word.Ended ∷ word.Specs ∷ []

abbrev pub word_text : Word → List ℕ
word_text word.Person = codes "person"
word_text word.Load = codes "load"
word_text word.Rule = codes "rule"
word_text word.Launch = codes "launch"
word_text word.Enter = codes "enter"
word_text word.Start = codes "start"
word_text word.Complete = codes "complete"
word_text word.Add = codes "add"
word_text word.Raise = codes "raise"
word_text word.Suspend = codes "suspend"
word_text word.Continue = codes "continue"
word_text word.Cancel = codes "cancel"
word_text word.Advance = codes "advance"
word_text word.List = codes "list"
word_text word.Show = codes "show"
word_text word.Ended = codes "ended"
word_text word.Specs = codes "specs"

-- the word with this text
unfoldable pub word_in : List ℕ → Option Word
word_in text = written word_text words text

-- ---- the word of what is asked

abbrev pub command_word : Command → Word
command_word (commands.Person name roles) = word.Person
command_word (commands.Load text) = word.Load
command_word (commands.Rule spec net task kind at side when conclusion) = word.Rule
command_word (commands.Launch spec gs) = word.Launch
command_word (commands.Enter who i t) = word.Enter
command_word (commands.Start who j) = word.Start
command_word (commands.Complete who j gs) = word.Complete
command_word (commands.Add who i t value) = word.Add
command_word (commands.Raise j kind) = word.Raise
command_word (commands.Suspend j) = word.Suspend
command_word (commands.Continue j) = word.Continue
command_word (commands.Cancel j) = word.Cancel
command_word (commands.Advance j) = word.Advance

abbrev pub query_word : Query → Word
query_word (queries.List who) = word.List
query_word (queries.Show j) = word.Show
query_word (queries.Ended j) = word.Ended
query_word queries.Specs = word.Specs

abbrev pub word_of : Asked → Word
word_of (asked.Command c) = command_word c
word_of (asked.Query q) = query_word q
