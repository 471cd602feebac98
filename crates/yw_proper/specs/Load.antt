-- What a net's tokens and active tasks weigh, and what a certificate says of each state: the net can't flood a place, and where it is at
-- its end nothing is left behind. The paper's proper completion, for all its events and those of the thesis; the bounds are our own.
use Rattle.std.specs.Prelude.{◌≡◌, ◌≤◌, ◌<◌, ◌+◌, ◌*◌, ◌/◌, ℕ, zero, suc, false, List, length, slice_get, Some, IsTrue, if◌then◌else◌}
use Rattle.yw_spec.specs.declared.spec.Net.{Net}
use Rattle.yw_spec.specs.declared.spec.Spec.{Spec}
use Rattle.yw_spec.specs.declared.task.Task.{Task}
use Rattle.yw_texts.specs.Texts.{reader}
use Rattle.yw_proper.specs.Proper.{weight_of_place, weight_of_task}
use Rattle.yw_sound.specs.Sound.{are_apart}
use Rattle.yw_state.specs.Events.{LeadAll}
use Rattle.yw_state.specs.Identity.{Ident}
use Rattle.yw_state.specs.Joins.{at_output}
use Rattle.yw_state.specs.Map.{get}
use Rattle.yw_state.specs.State.{State, NetPart, net_part, opening, spec_called, tokens_on}
use Rattle.yw_state.specs.Texts.{Reader}
use Rattle.yw_state.specs.Words.{active}
use Rattle.yw_state.specs.declared.event.Event.{Event}
use Rattle.yw_state.specs.declared.loaded.Loaded.{Loaded}

-- the sum of f over the numbers below n
abbrev pub total : (ℕ → ℕ) → ℕ → ℕ
total f zero = 0
total f (suc n) = total f n + f n

-- the tokens of the net at i, each as heavy as its place
abbrev pub tokens_weigh : Net → List ℕ → State → Ident → ℕ
tokens_weigh net w s i = total (λ c. tokens_on s i c * weight_of_place w c) (length net.places)

-- its active tasks, each once, however many items it has
abbrev pub tasks_weigh : Net → List ℕ → State → Ident → ℕ
tasks_weigh net w s i = total (λ k. if active s i k then weight_of_task net w k else 0) (length net.tasks)

abbrev pub load : Net → List ℕ → State → Ident → ℕ
load net w s i = tokens_weigh net w s i + tasks_weigh net w s i

-- ---- the nets of which it is said

-- At i stands the net with number k of a specification.
pub record IsNetOf (s : State) (i : Ident) (spec : Spec) (k : ℕ) : Type 0 where
  pub part : NetPart
  pub stands : net_part s i ≡ Some part
  pub called : spec_called s part.spec ≡ Some spec
  pub number : part.net ≡ k

-- At i stands the net with number k of a specification that was loaded with this text.
pub record IsNetOfText (s : State) (i : Ident) (text : List ℕ) (k : ℕ) : Type 0 where
  pub part : NetPart
  pub stands : net_part s i ≡ Some part
  pub loaded : Loaded
  pub kept : get s.specs part.spec ≡ Some loaded
  pub said : loaded.text ≡ text
  pub number : part.net ≡ k

-- no task of the net has a place twice from which flows lead to it
abbrev pub JoinsApart : Net → Type 0
JoinsApart net = (k : ℕ) (t : Task) → slice_get net.tasks k ≡ Some t → IsTrue (are_apart t.before)

-- ---- what is said of them

-- Nothing is left behind: one token on the output, none on another place, and no task active.
pub record IsAtEnd (net : Net) (s : State) (i : Ident) : Type 0 where
  pub output : tokens_on s i net.output ≡ 1
  pub others : (c : ℕ) → c < length net.places → ¬ (c ≡ net.output) → tokens_on s i c ≡ 0
  pub idle : (k : ℕ) → k < length net.tasks → active s i k ≡ false

-- All together weighs no more than one token on the input. So each place has no more tokens than so many weigh, and where the output is
-- marked nothing is left behind.
pub record IsBounded (net : Net) (w : List ℕ) (s : State) (i : Ident) : Type 0 where
  pub whole : load net w s i ≤ weight_of_place w net.input
  pub places : (c : ℕ) → c < length net.places → tokens_on s i c ≤ weight_of_place w net.input / weight_of_place w c
  pub end : IsTrue (at_output s i) → IsAtEnd net s i

-- so of each net with this number of this specification, in each state to which allowed events lead from the opening one
abbrev pub StaysBounded : Reader → Spec → ℕ → Net → List ℕ → Type 0
StaysBounded by spec k net w = (es : List Event) (s : State) → LeadAll by opening es s → (i : Ident) → IsNetOf s i spec k → IsBounded net w s i

-- so of each that was loaded with this text, which is accepted
abbrev pub TextStaysBounded : List ℕ → ℕ → Net → List ℕ → Type 0
TextStaysBounded text k net w = (es : List Event) (s : State) → LeadAll reader opening es s → (i : Ident) → IsNetOfText s i text k → IsBounded net w s i
