-- What is open at an identity, told of what is known and a forest. Our own.
use Rattle.std.specs.Ordering.{is_lt}
use Rattle.std.specs.Prelude.{◌≡◌, Bool, List, false, true}
use Rattle.yw_library.specs.Held.{IsHeld}
use Rattle.yw_library.specs.Holdings.{Holdings}
use Rattle.yw_state.specs.Answers.{rises}
use Rattle.yw_state.specs.Identity.{Ident}
use Rattle.yw_state.specs.Judged.{has_rules, is_select}
use Rattle.yw_state.specs.Map.{lexical}
use Rattle.yw_state.specs.State.{State}
use Rattle.yw_state.specs.declared.tree.TreePlace.{TreePlace}
use Rattle.yw_tree.specs.declared.Forest.{Forest}
use Rattle.yw_work.specs.Listed.{IsOpenList}
use Rattle.yw_work.specs.declared.open.Open.{Open}

-- in byte order of the tasks' names
abbrev pub name_before : Open → Open → Bool
name_before a b = is_lt (lexical a.task b.task)

-- Exactly what is open at j, in order of the tasks' names.
pub record AreOpens (s : State) (j : Ident) (opens : List Open) : Type 0 where
  pub exact : IsOpenList s j opens
  pub named : rises name_before opens ≡ true

-- no tree by which worklets are chosen has a rule
abbrev pub NoneChosen : State → Type 0
NoneChosen s = (p : TreePlace) → is_select p.kind ≡ true → has_rules s p ≡ false

-- What is known and a forest stand for this state. Rule trees are no part of what is known, so none may choose worklets in it.
pub record IsHeldUnchosen (known : Holdings) (f : Forest) (s : State) : Type 0 where
  pub held : IsHeld known f s
  pub unchosen : NoneChosen s

-- in each state for which they stand this is what is open at j
abbrev pub TellsOpens : Holdings → Forest → Ident → List Open → Type 0
TellsOpens known f j opens = (s : State) → IsHeldUnchosen known f s → AreOpens s j opens
