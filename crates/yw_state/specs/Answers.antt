-- What a query is told, read off the maps. What is told, and in which order, is our own.
use Rattle.std.specs.Prelude.{◌≡◌, ◌≤◌, ◌↔◌, ℕ, ◌==◌, ◌&&◌, Bool, true, false, List, [], ◌∷◌, ◌++◌, map, zip, filter, Option, Some, None, option_map, slice_get, Contains, if◌then◌else◌}
use Rattle.std.specs.List.{filter_map, flat_map}
use Rattle.std.specs.Ordering.{is_lt, ordering_then}
use Rattle.yw_base.specs.declared.value.Value.{Value}
use Rattle.yw_spec.specs.Net.{place_text}
use Rattle.yw_spec.specs.declared.spec.Var.{Var}
use Rattle.yw_state.specs.Broken.{Check, test, fact, test_at, fact_at, fault, First, enter_checks, start_checks, complete_checks}
use Rattle.yw_state.specs.Identity.{Ident}
use Rattle.yw_base.specs.Identity.{case_number}
use Rattle.yw_state.specs.Map.{lexical, entries, get, keys}
use Rattle.yw_state.specs.State.{State, Site, NetAt, ItemAt, RunPart, item_at, net_at}
use Rattle.yw_state.specs.declared.answer.DueRow.{DueRow}
use Rattle.yw_state.specs.declared.answer.ItemRow.{ItemRow}
use Rattle.yw_state.specs.declared.answer.NamedValue.{NamedValue}
use Rattle.yw_state.specs.declared.answer.NetRow.{NetRow}
use Rattle.yw_state.specs.declared.answer.RunRow.{RunRow}
use Rattle.yw_state.specs.declared.answer.Shown.{Shown}
use Rattle.yw_state.specs.declared.answer.TokenRow.{TokenRow}
use Rattle.yw_state.specs.declared.answer.What.{What}
use Rattle.yw_state.specs.declared.answer.What.TheVariants.{Enter, Start, Complete}
use Rattle.yw_state.specs.declared.answer.WorkRow.{WorkRow}
use Rattle.yw_state.specs.declared.part.Checks.{Checks}
use Rattle.yw_state.specs.declared.part.Way.{Way}
use Rattle.yw_state.specs.declared.rule.Rule.{Rule}
use Rattle.yw_state.specs.declared.rule.Rule.TheVariants.{UnknownPerson, UnknownCase, UnknownItem, UnknownTask, ByItself, NotDynamic, Role, Held, Active, NotEnabled, OrWaits, Stage, NotYours, Busy, MaxReached}
use Rattle.yw_state.specs.declared.tree.TreeKind.{TreeKind}
use Rattle.yw_state.specs.declared.tree.TreeKind.TheVariants.{Pre, Select, Post}

-- ---- the work of a person: what breaks none of the rules from UnknownPerson to MaxReached, but perhaps NotQuiet

abbrev is_of_work : Rule → Bool
is_of_work UnknownPerson = true
is_of_work UnknownCase = true
is_of_work UnknownItem = true
is_of_work UnknownTask = true
is_of_work ByItself = true
is_of_work NotDynamic = true
is_of_work Role = true
is_of_work Held = true
is_of_work Active = true
is_of_work NotEnabled = true
is_of_work OrWaits = true
is_of_work Stage = true
is_of_work NotYours = true
is_of_work Busy = true
is_of_work MaxReached = true
is_of_work other = false

abbrev concerns_work : Check → Bool
concerns_work (test broken r) = is_of_work r
concerns_work (fact Broken r) = is_of_work r
concerns_work (test_at place r) = is_of_work r
concerns_work (fact_at IsAt r) = is_of_work r
concerns_work (fault Has) = false

abbrev kept_if : Bool → Check → List Check → List Check
kept_if true c cs = c ∷ cs
kept_if false c cs = cs

abbrev of_work : List Check → List Check
of_work [] = []
of_work (c ∷ cs) = kept_if (concerns_work c) c (of_work cs)

abbrev task_name : State → Ident → Option (List ℕ)
task_name s j = option_map (λ (x : ItemAt). x.of_task.task.name) (item_at s j)

abbrev IsWorkOf : State → List ℕ → Ident → List ℕ → What → Type 0
IsWorkOf s who at task Enter = First (of_work (enter_checks s who at task)) None
IsWorkOf s who at task Start = First (of_work (start_checks s who at)) None × (task_name s at ≡ Some task)
IsWorkOf s who at task Complete = First (of_work (complete_checks s who at [])) None × (task_name s at ≡ Some task)

-- the person may do it
abbrev pub IsWork : State → List ℕ → WorkRow → Type 0
IsWork s who row = IsWorkOf s who row.at row.task row.what

-- each comes before the next
abbrev pub rises : {A : Type 0} → (A → A → Bool) → List A → Bool
rises before [] = true
rises before (a ∷ []) = true
rises before (a ∷ b ∷ rows) = before a b && rises before (b ∷ rows)

abbrev work_before : WorkRow → WorkRow → Bool
work_before a b = is_lt (ordering_then (lexical a.at b.at) (lexical a.task b.task))

-- Exactly the work of the person, in order of identity, then of the task's name.
pub record IsWorkList (s : State) (who : List ℕ) (rows : List WorkRow) : Type 0 where
  pub ordered : rises work_before rows ≡ true
  pub exact : (row : WorkRow) → Contains rows row ↔ IsWork s who row

-- ---- all that stands in a case

abbrev pub of_case : State → ℕ → List (Ident × Site)
of_case s n = filter (λ e. case_number e.0 == n) (entries s.sites)

abbrev if_due : Bool → TreeKind → List TreeKind
if_due b kind = if b then kind ∷ [] else []

abbrev due_checks : Checks → List TreeKind
due_checks c = if_due c.pre Pre ++ (if_due c.select Select ++ if_due c.post Post)

abbrev pub due_rows : Ident × Site → List DueRow
due_rows e = map (λ check. record { at = e.0; check = check }) (due_checks e.1.due)

abbrev pub item_row : State → Ident × Site → Option ItemRow
item_row s e = option_map (λ (x : ItemAt). record { item = e.0; task = x.of_task.task.name; stage = x.part.stage; who = x.part.who }) (item_at s e.0)

abbrev named_value : Var × Value → NamedValue
named_value e = record { name = e.0.name; value = e.1 }

abbrev pub net_row : State → Ident × Site → Option NetRow
net_row s e =
    option_map (λ (n : NetAt). record { net = e.0; spec = n.part.spec; name = n.net.name; values = map named_value (zip n.net.vars n.part.vals) }) (net_at s e.0)

abbrev pub run_row : Ident × Site → Option RunRow
run_row e = option_map (λ (r : RunPart). record { run = e.0; waiting = r.waiting; rest = r.rest }) e.1.run

-- So many tokens are on a place of a net of the case, one at least.
pub record IsTokenRow (s : State) (n : ℕ) (row : TokenRow) : Type 0 where
  pub in_case : case_number row.net ≡ n
  pub net : NetAt
  pub here : net_at s row.net ≡ Some net
  pub number : ℕ
  pub place : slice_get net.net.places number ≡ Some row.place
  pub count : slice_get net.part.tokens number ≡ Some row.count
  pub some : 1 ≤ row.count

abbrev pub token_before : TokenRow → TokenRow → Bool
token_before a b = is_lt (ordering_then (lexical a.net b.net) (lexical (place_text a.place) (place_text b.place)))

-- Exactly the tokens of the case, in order of the net's identity, then of the place's text.
pub record IsTokenList (s : State) (n : ℕ) (rows : List TokenRow) : Type 0 where
  pub ordered : rises token_before rows ≡ true
  pub exact : (row : TokenRow) → Contains rows row ↔ IsTokenRow s n row

-- All that stands in the case, each kind in order of identity.
pub record IsShown (s : State) (n : ℕ) (x : Shown) : Type 0 where
  pub due : x.due ≡ flat_map due_rows (of_case s n)
  pub items : x.items ≡ filter_map (item_row s) (of_case s n)
  pub nets : x.nets ≡ filter_map (net_row s) (of_case s n)
  pub runs : x.runs ≡ filter_map run_row (of_case s n)
  pub suspended : x.suspended ≡ map (λ e. e.0) (filter (λ e. e.1.suspended) (of_case s n))
  pub tokens : IsTokenList s n x.tokens

-- ---- cases that are over, and specifications

abbrev pub ended_way : State → Ident → Option Way
ended_way s j = get s.ended (case_number j)

-- in byte order
abbrev pub spec_names : State → List (List ℕ)
spec_names s = keys s.specs
