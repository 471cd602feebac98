-- The rows of a state, and which bytes are those of a state that is well.
use Rattle.std.specs.Prelude.{◌≡◌, ◌⊎◌, ◌==◌, ℕ, Bool, true, List, [], ◌∷◌, map, flat_map, filter_map, Option, Some, None, option_map, option_and_then, position, slice_get, unwrap_or, Ok, if◌then◌else◌}
use Rattle.std.specs.Str.{bytes_eq}
use Rattle.yw_base.specs.Identity.{parent}
use Rattle.yw_spec.specs.declared.spec.Net.{Net}
use Rattle.yw_spec.specs.declared.spec.Place.{Place}
use Rattle.yw_spec.specs.declared.spec.Spec.{Spec}
use Rattle.yw_state.specs.Identity.{Ident}
use Rattle.yw_state.specs.Map.{entries}
use Rattle.yw_state.specs.RuleTree.{TreeRule}
use Rattle.yw_state.specs.State.{ItemPart, NetPart, RunPart, Site, Sites, State, TaskAt, net_at, net_of, opening, task_in}
use Rattle.yw_state.specs.Texts.{Reader}
use Rattle.yw_state.specs.Well.{IsWell}
use Rattle.yw_state.specs.Words.{any_due}
use Rattle.yw_state.specs.declared.loaded.Loaded.{Loaded}
use Rattle.yw_state.specs.declared.part.Checks.{Checks}
use Rattle.yw_state.specs.declared.part.Way.{Way}
use Rattle.yw_state.specs.declared.tree.TreeKind.{TreeKind}
use Rattle.yw_state.specs.declared.tree.TreeKind.TheVariants as kinds
use Rattle.yw_state.specs.declared.tree.TreePlace.{TreePlace}
use Rattle.yw_states.specs.Rows.{is_rows, rows_bytes}
use Rattle.yw_states.specs.Wholes.{IsWhole}
use Rattle.yw_states.specs.declared.cases.DueRow.{DueRow}
use Rattle.yw_states.specs.declared.cases.EndedRow.{EndedRow}
use Rattle.yw_states.specs.declared.cases.ItemRow.{ItemRow}
use Rattle.yw_states.specs.declared.cases.NetRow.{NetRow}
use Rattle.yw_states.specs.declared.cases.RunRow.{RunRow}
use Rattle.yw_states.specs.declared.cases.TokenRow.{TokenRow}
use Rattle.yw_states.specs.declared.kept.PersonRow.{PersonRow}
use Rattle.yw_states.specs.declared.kept.RuleRow.{RuleRow}
use Rattle.yw_states.specs.declared.kept.TreeRow.{TreeRow}
use Rattle.yw_states.specs.declared.rows.Rows.{Rows}
use Rattle.yw_within.specs.Within.{ReadsWithin}

-- ---- persons, texts and rule trees

abbrev pub person_row : List ℕ × List (List ℕ) → PersonRow
person_row e = record { name = e.0; roles = e.1 }

abbrev pub text_row : List ℕ × Loaded → List ℕ
text_row e = e.1.text

abbrev pub rule_row : TreeRule → RuleRow
rule_row rule = record { at = rule.at; side = rule.side; when = rule.when; conclusion = rule.conclusion }

-- the name in a tree's key, before which a number stands
abbrev pub named_by : List ℕ → Option (List ℕ)
named_by [] = None
named_by (mark ∷ name) = Some name

abbrev pub kind_numbered : ℕ → TreeKind
kind_numbered number =
    if number == 0 then kinds.Pre else if number == 1 then kinds.Post else if number == 2 then kinds.Select
    else if number == 3 then kinds.External else if number == 4 then kinds.Timeout else kinds.Abort

-- where the tree of this key stands
abbrev pub place_of_key : List (List ℕ) → Option TreePlace
place_of_key (spec ∷ net ∷ task ∷ (kind ∷ []) ∷ []) = Some (record
    { spec = spec; net = named_by net; task = named_by task; kind = kind_numbered kind })
place_of_key key = None

abbrev pub tree_row : List (List ℕ) × List TreeRule → Option TreeRow
tree_row e = option_map (λ (p : TreePlace). record { place = p; rules = map rule_row e.1 }) (place_of_key e.0)

-- ---- what stands in cases

abbrev pub net_of_site : Ident → Site → Option NetPart
net_of_site j x = x.net

abbrev pub item_of_site : Ident → Site → Option ItemPart
item_of_site j x = x.item

abbrev pub run_of_site : Ident → Site → Option RunPart
run_of_site j x = x.run

abbrev pub mark_of_site : Ident → Site → Option Bool
mark_of_site j x = if x.suspended then Some true else None

abbrev pub due_of_site : Ident → Site → Option Checks
due_of_site j x = if any_due x.due then Some x.due else None

-- what stands of a kind, each by its identity
abbrev pub parts : {Y : Type 0} → (Ident → Site → Option Y) → Sites → List (Ident × Y)
parts {Y = Y} part m = filter_map (λ e. option_map (λ (y : Y). (e.0, y)) (part e.0 e.1)) (entries m)

-- the net of its specification
abbrev pub net_name : State → NetPart → List ℕ
net_name s n = unwrap_or (option_map (λ (net : Net). net.name) (net_of s n)) []

abbrev pub net_row : State → Ident × NetPart → NetRow
net_row s e = record { ident = e.0; spec = e.1.spec; net = net_name s e.1; values = e.1.vals }

abbrev pub net_places : State → NetPart → List Place
net_places s n = unwrap_or (option_map (λ (net : Net). net.places) (net_of s n)) []

-- a row for each place that has tokens
abbrev pub place_rows : Ident → List Place → List ℕ → List TokenRow
place_rows j [] counts = []
place_rows j (p ∷ ps) [] = []
place_rows j (p ∷ ps) (n ∷ ns) = if n == 0 then place_rows j ps ns else record { ident = j; place = p; count = n } ∷ place_rows j ps ns

abbrev pub token_rows : State → Ident × NetPart → List TokenRow
token_rows s e = place_rows e.0 (net_places s e.1) e.1.tokens

-- the task of this number in the net above
abbrev pub task_name : State → Ident → ℕ → List ℕ
task_name s j k = unwrap_or (option_map (λ (t : TaskAt). t.task.name) (option_and_then (λ n. task_in n k) (net_at s (parent j)))) []

abbrev pub item_row : State → Ident × ItemPart → ItemRow
item_row s e = record { ident = e.0; task = task_name s e.0 e.1.task; stage = e.1.stage; given = e.1.given; made = e.1.made; who = e.1.who }

abbrev pub run_row : Ident × RunPart → RunRow
run_row e = record { ident = e.0; waiting = e.1.waiting; rest = e.1.rest }

abbrev pub due_row : Ident × Checks → DueRow
due_row e = record { ident = e.0; due = e.1 }

abbrev pub ended_row : ℕ × Way → EndedRow
ended_row e = record { case = e.0; way = e.1 }

-- ---- all of them

abbrev pub rows_of : State → Rows
rows_of s = record {
  next = s.next;
  persons = map person_row (entries s.persons);
  texts = map text_row (entries s.specs);
  trees = filter_map tree_row (entries s.rules);
  nets = map (net_row s) (parts net_of_site s.sites);
  tokens = flat_map (token_rows s) (parts net_of_site s.sites);
  items = map (item_row s) (parts item_of_site s.sites);
  runs = map run_row (parts run_of_site s.sites);
  suspended = map (λ (e : Ident × Bool). e.0) (parts mark_of_site s.sites);
  due = map due_row (parts due_of_site s.sites);
  ended = map ended_row (entries s.ended);
}

-- The opening state has no bytes, and each other state those of its rows.
abbrev pub AreBytes : State → List ℕ → Type 0
AreBytes s bytes = ((s ≡ opening) × (bytes ≡ [])) ⊎ ((¬ (s ≡ opening)) × IsWhole is_rows rows_bytes bytes (rows_of s))

-- These are the bytes of the state, which is well.
pub record IsState (reader : Reader) (s : State) (bytes : List ℕ) : Type 0 where
  pub well : IsWell reader s
  pub here : AreBytes s bytes

-- ---- what is supposed of a reader of texts

-- each net has one number by its name
abbrev pub NetsAreNamed : Spec → Type 0
NetsAreNamed spec = (k : ℕ) (net : Net) → slice_get spec.nets k ≡ Some net → position (λ (n : Net). bytes_eq n.name net.name) spec.nets ≡ Some k

-- A reader of texts by which all that a specification has is found by its name.
pub record ReadsNamed (reader : Reader) : Type 0 where
  pub within : ReadsWithin reader
  pub nets : (text : List ℕ) (spec : Spec) → reader.spec text (Ok spec) → NetsAreNamed spec
