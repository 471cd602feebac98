-- Joins: when a task can be entered, and from which places tokens are taken. The three joins are the paper's. Which of its marked
-- places an XOR-join takes from is free. An OR-join waits while a token may still come to an empty input place of it; that this is
-- said by paths, in nets without cycles, is our own.
use Rattle.std.specs.Prelude.{ℕ, ◌==◌, ◌&&◌, Bool, not, List, [], ◌∷◌, length, nat_lt, nat_eq, filter, Contains, IsTrue, false}
use Rattle.std.specs.Cmp.Lexicographic.{pointwise}
use Rattle.std.specs.List.{list_all, list_any}
use Rattle.yw_spec.specs.Net.{Node, at_place, at_task, Path}
use Rattle.yw_base.specs.declared.gate.Gate.{Gate}
use Rattle.yw_base.specs.declared.gate.Gate.TheVariants.{And, Xor, Or}
use Rattle.yw_state.specs.Identity.{Ident}
use Rattle.yw_base.specs.Gates.{is_or}
use Rattle.yw_state.specs.Nets.{is_among}
use Rattle.yw_state.specs.Options.{is_some_and}
use Rattle.yw_state.specs.State.{State, TaskAt, net_at, tokens_on}
use Rattle.yw_state.specs.Words.{active}

abbrev pub marked : State → Ident → ℕ → Bool
marked s i c = nat_lt 0 (tokens_on s i c)

-- the output of the net at i is marked
abbrev pub at_output : State → Ident → Bool
at_output s i = is_some_and (net_at s i) (λ n. marked s i n.net.output)

-- a marked place, or an active task
abbrev pub holds_token : State → Ident → Node → Bool
holds_token s i (at_place c) = marked s i c
holds_token s i (at_task k) = active s i k

-- An input place of the task is empty, and a path leads to it from something that holds a token.
pub record Waits (s : State) (i : Ident) (x : TaskAt) : Type 0 where
  pub input : ℕ
  pub of_task : Contains x.task.before input
  pub empty : IsTrue (not (marked s i input))
  pub source : Node
  pub holds : IsTrue (holds_token s i source)
  pub path : Path x.within.net source (at_place input)

abbrev is_one_of : List ℕ → List ℕ → Bool
is_one_of cs [] = false
is_one_of cs (b ∷ bs) = is_among cs b && length bs == 0

-- a join takes from these places, but for an OR-join's wait: from all, each marked; from one marked one; or from all marked ones, at
-- least one
abbrev pub joins : Gate → State → Ident → List ℕ → List ℕ → Bool
joins And s i before taken = pointwise nat_eq taken before && list_all (marked s i) before
joins Xor s i before taken = is_one_of before taken && list_all (marked s i) taken
joins Or s i before taken = pointwise nat_eq taken (filter (marked s i) before) && nat_lt 0 (length taken)

-- a join has the tokens that it needs, but for an OR-join's wait
abbrev pub has_tokens : Gate → State → Ident → List ℕ → Bool
has_tokens And s i before = list_all (marked s i) before
has_tokens gate s i before = list_any (marked s i) before

-- it is no OR-join, or it doesn't wait
abbrev pub NoWait : State → Ident → TaskAt → Type 0
NoWait s i x = IsTrue (is_or x.task.join) → Waits s i x → ⊥
