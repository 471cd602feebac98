-- What a line asks can be asked, and what comes of a line is what comes of its meaning.
use Rattle.std.proofs.Common.{◌≡◌, ℕ, ◌+◌, take, List, Bool, true, false, cond, Option, None, Some, Result, Ok, Err, sym, subst}
use Rattle.std.specs.Str.{is_utf8}
use Rattle.toml.specs.Data.{Members}
use Rattle.toml.specs.Parse.{parse_document}
use Rattle.yw_read.specs.Reading.{spec_from, spec_in, with_shape}
use Rattle.yw_read.specs.Tables.{spec_table}
use Rattle.yw_read.specs.declared.raw.RawSpec.{RawSpec}
use Rattle.yw_read.specs.declared.raw.ReadFault.{ReadFault}
use Rattle.yw_read.specs.declared.raw.ReadFault.TheVariants.{NotToml, Memory}
use Rattle.yw_state.specs.declared.command.Asked.{Asked}
use Rattle.yw_state.specs.declared.command.Asked.TheVariants as asked
use Rattle.yw_state.specs.declared.command.Command.{Command}
use Rattle.yw_state.specs.declared.command.Command.TheVariants as commands
use Rattle.yw_state.specs.declared.rule.Rule.{Rule}
use Rattle.yw_texts.specs.Accepted.{document_in}
use Rattle.yw_lines.specs.Lines.{line_limit}
use Rattle.yw_lines.specs.Meaning.{IsProper, is_built, meaning}
use Rattle.yw_model.specs.Run.{built_words, Step, MeaningAnswers, Answers}
use Rattle.yw_built.specs.Asked.{CanBeAsked}
use Rattle.yw_lines.specs.Words.{command_word}
use Rattle.yw_state.specs.State.{State}
use Rattle.yw_lines.proofs.Asking.{asks_properly}
use Rattle.yw_lines.proofs.MeaningLemmas.{meaning-take}
use Rattle.yw_state.proofs.Tests.{never}

-- ---- what a line asks

-- a proper command of a word that is built
can_be_asked : (c : Command) → IsProper c → is_built built_words (command_word c) ≡ true → CanBeAsked c
can_be_asked (commands.Person name roles) proper built = proper.2
can_be_asked (commands.Load text) proper built = tt
can_be_asked (commands.Rule spec net task kind at side when conclusion) proper built = never built
can_be_asked (commands.Launch spec gs) proper built = tt
can_be_asked (commands.Enter who i t) proper built = tt
can_be_asked (commands.Start who j) proper built = tt
can_be_asked (commands.Complete who j gs) proper built = tt
can_be_asked (commands.Add who i t value) proper built = tt
can_be_asked (commands.Raise j kind) proper built = never built
can_be_asked (commands.Suspend j) proper built = tt
can_be_asked (commands.Continue j) proper built = tt
can_be_asked (commands.Cancel j) proper built = tt
can_be_asked (commands.Advance j) proper built = tt

-- a line asks for such a command alone
pub line_can_ask : (line : List ℕ) (c : Command) → meaning built_words line ≡ Ok (asked.Command c) → CanBeAsked c
line_can_ask line c is = let asks = asks_properly built_words line (asked.Command c) is in can_be_asked c asks.0 asks.1

-- ---- what a text says

shaped : (r : Result RawSpec (List ℕ)) → with_shape r ≡ Err Memory → ⊥
shaped (Ok raw) is = cc
shaped (Err path) is = cc

from_table : (o : Option Members) → spec_from o ≡ Err Memory → ⊥
from_table None is = cc
from_table (Some table) is = shaped (spec_table table) is

only_text : (b : Bool) (said : Result RawSpec ReadFault) → (said ≡ Err Memory → ⊥) → cond b said (Err NotToml) ≡ Err Memory → ⊥
only_text true said h is = h is
only_text false said h is = cc

-- what a text says is no want of memory
pub says : (text : List ℕ) → document_in text ≡ Err Memory → ⊥
unfolding document_in spec_in
says text = only_text (is_utf8 text) (spec_in text) (from_table (parse_document text))

-- ---- answers

-- what comes of what a line means comes of the line
pub answers_by : (s : State) (n : ℕ) (line : List ℕ) (m : Result Asked Rule) (step : Step) (t : State)
    → meaning built_words line ≡ m → MeaningAnswers m s n step t → Answers s n line step t
unfolding Answers
answers_by s n line m step t means a = subst (λ (k : Result Asked Rule). MeaningAnswers k s n step t) (sym means) a

-- what is kept of a line that is too long is answered as the line is
pub Answers-take : (s : State) (n : ℕ) (line : List ℕ) (step : Step) (t : State)
    → Answers s n (take (line_limit + 1) line) step t → Answers s n line step t
unfolding Answers
Answers-take s n line step t a = subst (λ (m : Result Asked Rule). MeaningAnswers m s n step t) (meaning-take built_words line) a
