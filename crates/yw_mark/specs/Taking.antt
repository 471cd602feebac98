-- From which of its input places a join takes tokens.
use Rattle.std.specs.Prelude.{◌≡◌, ℕ, Bool, List, [], ◌∷◌, filter, find, Some, IsTrue, slice_get}
use Rattle.yw_base.specs.declared.gate.Gate.{Gate}
use Rattle.yw_base.specs.declared.gate.Gate.TheVariants.{And, Xor, Or}
use Rattle.yw_mark.specs.Tokens.{HasMarks, is_marked}
use Rattle.yw_mark.specs.declared.join.Taken.{Taken}
use Rattle.yw_mark.specs.declared.join.Taken.TheVariants.{All, One, Marked}
use Rattle.yw_spec.specs.declared.spec.Net.{Net}
use Rattle.yw_spec.specs.declared.task.Task.{Task}
use Rattle.yw_state.specs.Identity.{Ident}
use Rattle.yw_state.specs.Joins.{has_tokens, joins}
use Rattle.yw_state.specs.State.{State}

-- the places, among the input places, that a choice stands for
abbrev pub taken_places : List ℕ → List ℕ → Taken → List ℕ
taken_places marks before All = before
taken_places marks before (One c) = c ∷ []
taken_places marks before Marked = filter (is_marked marks) before

-- an AND-join takes from all input places, an XOR-join from the first marked one, an OR-join from all marked ones
abbrev pub IsOfGate : Gate → List ℕ → List ℕ → Taken → Type 0
IsOfGate And marks before All = Unit {0}
IsOfGate Xor marks before (One c) = find (is_marked marks) before ≡ Some c
IsOfGate Or marks before Marked = Unit {0}
IsOfGate gate marks before taken = ⊥

-- The choice is of the join's kind. Wherever a net has these tokens, the join takes from the places that the choice stands for, but
-- for an OR-join's wait.
pub record Chooses (marks : List ℕ) (task : Task) (taken : Taken) : Type 0 where
  pub kind : IsOfGate task.join marks task.before taken
  pub joins : (s : State) (i : Ident) → HasMarks s i marks → IsTrue (joins task.join s i task.before (taken_places marks task.before taken))

-- wherever a net has these tokens, the join has the tokens that it needs, or lacks some, but for an OR-join's wait
abbrev pub HasTokens : List ℕ → Task → Bool → Type 0
HasTokens marks task has = (s : State) (i : Ident) → HasMarks s i marks → has_tokens task.join s i task.before ≡ has

-- it holds of the task with this number
abbrev pub OfTask : Net → ℕ → (Task → Type 0) → Type 0
OfTask net t P = (task : Task) → slice_get net.tasks t ≡ Some task → P task
