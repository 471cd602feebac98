-- Events in turn from the first state of all, and what is then to be seen. Each row is a list of entries, one for each command.
use Rattle.std.specs.Prelude.{ℕ, Bool, true, false, List, [], ◌∷◌, flat_map, take, Option, Some, None, is_some, option_map, option_and_then, if◌then◌else◌}
use Rattle.yw_state.specs.Allowed.{allows}
use Rattle.yw_rows.specs.Shown.{shown}
use Rattle.yw_state.specs.Answers.{ended_way, rises, token_before}
use Rattle.yw_state.specs.Automatic.{is_automatic}
use Rattle.yw_state.specs.Broken.{Breaks, Check, First, test, fact, test_at, fact_at, fault, checks}
use Rattle.yw_state.specs.Events.{after}
use Rattle.yw_state.specs.Identity.{case_ident}
use Rattle.yw_state.specs.State.{State, opening}
use Rattle.yw_state.specs.Texts.{Reader, Said, nothing}
use Rattle.yw_state.specs.Words.{urgent}
use Rattle.yw_state.specs.declared.answer.Shown.{Shown}
use Rattle.yw_state.specs.declared.command.Command.{Command}
use Rattle.yw_state.specs.declared.event.Event.{Event}
use Rattle.yw_state.specs.declared.part.Way.{Way}
use Rattle.yw_state.specs.declared.rule.Refusal.{Refusal}

-- an event with what its text says
abbrev pub Step : Type 0
Step = Event × Said

-- the events of one command
abbrev pub Entry : Type 0
Entry = List Step

abbrev if_allowed : Bool → Option State → Option State
if_allowed true t = t
if_allowed false t = None

-- the state after these events, or nothing where one of them isn't allowed in its turn
abbrev pub play : State → List Step → Option State
play s [] = Some s
play s (e ∷ es) = if_allowed (allows s e.0 e.1) (play (after s e.0 e.1) es)

-- the state after the first k entries of a row
abbrev pub begun : List Entry → ℕ → Option State
begun row k = play opening (flat_map (λ entry. entry) (take k row))

-- each of these events is allowed in its turn
abbrev pub are_allowed : List Entry → ℕ → Bool
are_allowed row k = is_some (begun row k)

-- what is shown of a case, if its tokens are in order
abbrev in_order : Shown → Option Shown
in_order x = if rises token_before x.tokens then Some x else None

-- all that stands in case n then
abbrev pub shown_at : List Entry → ℕ → ℕ → Option Shown
shown_at row k n = option_and_then (λ s. in_order (shown s n)) (begun row k)

-- how case n has ended then
abbrev pub ended_at : List Entry → ℕ → ℕ → Option Way
ended_at row k n = option_and_then (λ s. ended_way s (case_ident n)) (begun row k)

-- whether an event without a text is allowed then, but for an OR-join's wait
abbrev pub allowed_at : List Entry → ℕ → Event → Option Bool
allowed_at row k e = option_map (λ s. allows s e nothing) (begun row k)

-- whether a check is due in case n then, or a run is at work
abbrev pub urgent_at : List Entry → ℕ → ℕ → Option Bool
urgent_at row k n = option_map (λ s. urgent s n) (begun row k)

-- whether the server does it by itself then
abbrev pub automatic_at : List Entry → ℕ → Event → Option Bool
automatic_at row k e = option_map (λ s. is_automatic s e) (begun row k)

-- there is one, and this is so of it
abbrev pub OfSome : {A : Type 0} → Option A → (A → Type 0) → Type 0
OfSome None P = ⊥
OfSome (Some x) P = P x

-- what is so of the state then
abbrev pub Then : List Entry → ℕ → (State → Type 0) → Type 0
Then row k P = OfSome (begun row k) P

-- no text is read: of commands that have none
abbrev pub no_reader : Reader
no_reader = record { spec = λ text found. ⊥; condition = λ text scope found. ⊥ }

-- the first rule that the command breaks then
abbrev pub RefusedAt : List Entry → ℕ → Command → Refusal → Type 0
RefusedAt row k c refusal = Then row k (λ s. Breaks no_reader s c (Some refusal))

-- the checks that compute
abbrev pub computed : List Check → List Check
computed [] = []
computed (test broken r ∷ cs) = test broken r ∷ computed cs
computed (test_at place r ∷ cs) = test_at place r ∷ computed cs
computed (fact Broken r ∷ cs) = computed cs
computed (fact_at IsAt r ∷ cs) = computed cs
computed (fault Has ∷ cs) = computed cs

-- the first rule that the command breaks then, but for those that don't compute: that the case isn't quiet, and that an OR-join waits
abbrev pub ComputesAt : List Entry → ℕ → Command → Option Refusal → Type 0
ComputesAt row k c found = Then row k (λ s. First (computed (checks no_reader s c)) found)
