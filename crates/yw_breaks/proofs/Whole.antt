-- Each table is its two parts, with the check that the case is quiet between them.
use Rattle.std.proofs.Common.{List, None, Option, drop, refl, take, ℕ}
use Rattle.yw_base.specs.declared.value.Value.{Value}
use Rattle.yw_breaks.proofs.Joining.{behind, front_none, joined}
use Rattle.yw_breaks.specs.Tables.{Joins, add_front, add_rest, complete_front, complete_most, complete_rest, enter_front, enter_rest, start_front, start_rest}
use Rattle.yw_state.specs.Broken.{First, checks}
use Rattle.yw_state.specs.Identity.{Ident}
use Rattle.yw_state.specs.State.{State}
use Rattle.yw_state.specs.Texts.{Reader}
use Rattle.yw_state.specs.declared.command.Command.TheVariants as commands
use Rattle.yw_state.specs.declared.command.Given.{Given}
use Rattle.yw_state.specs.declared.rule.Refusal.{Refusal}

module _ (reader : Reader) (s : State) where
  pub start_joins : (who : List ℕ) (j : Ident) → Joins reader s (commands.Start who j) j (start_front s who j) (start_rest s who j)
  unfolding checks
  start_joins who j = joined reader s (commands.Start who j) j (start_front s who j) (start_rest s who j) refl

  pub enter_joins : (who : List ℕ) (i : Ident) (t : List ℕ) → Joins reader s (commands.Enter who i t) i (enter_front s who i t) (enter_rest s who i t)
  unfolding checks
  enter_joins who i t = joined reader s (commands.Enter who i t) i (enter_front s who i t) (enter_rest s who i t) refl

  pub complete_joins : (who : List ℕ) (j : Ident) (gs : List Given)
      → Joins reader s (commands.Complete who j gs) j (complete_front s who j gs) (complete_rest s who j gs)
  unfolding checks
  complete_joins who j gs = joined reader s (commands.Complete who j gs) j (complete_front s who j gs) (complete_rest s who j gs) refl

  pub add_joins : (who : List ℕ) (i : Ident) (t : List ℕ) (value : Option Value) → Joins reader s (commands.Add who i t value) i (add_front s who i) (add_rest s who i t value)
  unfolding checks
  add_joins who i t value = joined reader s (commands.Add who i t value) i (add_front s who i) (add_rest s who i t value) refl

-- what the completion itself finds is the first, where nothing else is broken
pub complete_last : (s : State) (who : List ℕ) (j : Ident) (gs : List Given) (found : Option Refusal) → First (complete_most s who j gs) None
    → First (drop 2 (complete_rest s who j gs)) found → First (complete_rest s who j gs) found
complete_last s who j gs found most last =
    behind (take 2 (complete_rest s who j gs)) (drop 2 (complete_rest s who j gs)) found
    (front_none (take 2 (complete_rest s who j gs)) (take 4 (drop 2 (complete_rest s who j gs))) most) last
