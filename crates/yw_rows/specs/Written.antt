-- Short forms in which specifications, entries and what is shown are written out below.
use Rattle.std.specs.Prelude.{ℕ, Bool, List, [], ◌∷◌, map, Option, Some, None}
use Rattle.yw_base.specs.declared.value.Sort.{Sort}
use Rattle.yw_base.specs.declared.value.Value.{Value}
use Rattle.yw_expr.specs.Tree.{Tree}
use Rattle.yw_rows.specs.Play.{Entry}
use Rattle.yw_spec.specs.declared.spec.Net.{Net}
use Rattle.yw_spec.specs.declared.spec.Place.{Place}
use Rattle.yw_spec.specs.declared.spec.Spec.{Spec}
use Rattle.yw_base.specs.declared.usage.Usage.{Usage}
use Rattle.yw_spec.specs.declared.spec.Var.{Var}
use Rattle.yw_base.specs.declared.gate.Gate.TheVariants.{And}
use Rattle.yw_spec.specs.declared.task.Kind.TheVariants.{Atomic}
use Rattle.yw_spec.specs.declared.task.Task.{Task}
use Rattle.yw_state.specs.Identity.{Ident}
use Rattle.yw_state.specs.Texts.{nothing, a_spec, a_test}
use Rattle.yw_state.specs.declared.answer.ItemRow.{ItemRow}
use Rattle.yw_state.specs.declared.answer.NamedValue.{NamedValue}
use Rattle.yw_state.specs.declared.answer.NetRow.{NetRow}
use Rattle.yw_state.specs.declared.answer.Shown.{Shown}
use Rattle.yw_state.specs.declared.answer.TokenRow.{TokenRow}
use Rattle.yw_state.specs.declared.command.Given.{Given}
use Rattle.yw_state.specs.declared.event.Event.{Event}
use Rattle.yw_state.specs.declared.event.Event.TheVariants as events
use Rattle.yw_state.specs.declared.part.Stage.{Stage}
use Rattle.yw_state.specs.declared.tree.Conclusion.{Conclusion}
use Rattle.yw_state.specs.declared.tree.TreeKind.{TreeKind}
use Rattle.yw_state.specs.declared.tree.TreePlace.{TreePlace}

-- ---- specifications

-- nets, the top one first
abbrev pub spec : List ℕ → List Net → Spec
spec name nets = record { name = name; top = 0; nets = nets }

-- places with the input and the output first, variables and tasks
abbrev pub net : List ℕ → List Place → List Var → List Task → Net
net name places vars tasks = record { name = name; input = 0; output = 1; places = places; tasks = tasks; vars = vars }

abbrev pub var : List ℕ → Sort → Usage → Value → Var
var name sort usage init = record { name = name; sort = sort; usage = usage; init = init }

-- a task that a person does, with the numbers of the places before and behind it
abbrev pub task : List ℕ → List ℕ → List ℕ → Task
task name before after =
    record {
      name = name;
      kind = Atomic;
      role = None;
      join = And;
      split = And;
      before = before;
      after = after;
      branch = [];
      drop_places = [];
      drop_tasks = [];
      ins = [];
      outs = [];
      set = [];
      many = None;
    }

-- ---- entries

-- events without a text
abbrev pub plain : List Event → Entry
plain es = map (λ e. (e, nothing)) es

abbrev pub person : List ℕ → List (List ℕ) → Entry
person name roles = plain (events.Person name roles ∷ [])

-- a text that says this specification; events never look at the text
abbrev pub load : Spec → Entry
load s = (events.Load s.name [], a_spec s) ∷ []

abbrev pub tree_place : List ℕ → Option (List ℕ) → Option (List ℕ) → TreeKind → TreePlace
tree_place spec net task kind = record { spec = spec; net = net; task = task; kind = kind }

-- a text that says this condition
abbrev pub rule : TreePlace → ℕ → Bool → Tree → Conclusion → ℕ → Entry
rule place at side test conclusion number = (events.AddRule place at side [] conclusion number, a_test test) ∷ []

-- ---- what is shown

abbrev pub nothing_shown : Shown
nothing_shown = record { due = []; items = []; nets = []; runs = []; suspended = []; tokens = [] }

abbrev pub item : Ident → List ℕ → Stage → Option (List ℕ) → ItemRow
item j task stage who = record { item = j; task = task; stage = stage; who = who }

abbrev pub net_row : Ident → List ℕ → List ℕ → List NamedValue → NetRow
net_row i spec name values = record { net = i; spec = spec; name = name; values = values }

abbrev pub token : Ident → Place → ℕ → TokenRow
token i place count = record { net = i; place = place; count = count }

-- ---- what a line gives

abbrev pub given : List ℕ → Value → Given
given name value = record { name = name; value = Some value }
