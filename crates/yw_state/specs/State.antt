-- What the server keeps. One map has all that stands in cases, each by its identity: a net with its tokens and values, an item, a run
-- of an exlet, whether it is suspended, and what it is still to be judged by. The paper's marking of a case is read off it, and so is
-- the thesis's state of exlets; that both stand in one map under identities is our own.
use Rattle.std.specs.Prelude.{ℕ, ◌==◌, ◌&&◌, ◌||◌, Bool, false, not, List, [], ◌∷◌, Option, Some, None, is_some, option_map, option_and_then, unwrap_or, slice_get, if◌then◌else◌}
use Rattle.std.specs.List.{list_any, filter_map}
use Rattle.yw_base.specs.Identity.{under, parent}
use Rattle.yw_spec.specs.declared.spec.Net.{Net}
use Rattle.yw_spec.specs.declared.spec.Spec.{Spec}
use Rattle.yw_spec.specs.declared.task.Task.{Task}
use Rattle.yw_state.specs.Identity.{Ident, same, strictly_under, is_child, is_case_ident}
use Rattle.yw_state.specs.Map.{Map, lexical, lexical_each, empty, entries, get, of_entries, update, retain}
use Rattle.std.specs.Ordering.{nat_cmp}
use Rattle.yw_state.specs.Nets.{task_number, top_net}
use Rattle.yw_state.specs.Options.{is_some_and}
use Rattle.yw_state.specs.RuleTree.{TreeRule}
use Rattle.yw_state.specs.Values.{Row}
use Rattle.yw_state.specs.declared.loaded.Loaded.{Loaded}
use Rattle.yw_state.specs.declared.part.Checks.{Checks}
use Rattle.yw_state.specs.declared.part.Stage.{Stage}
use Rattle.yw_state.specs.declared.part.Way.{Way}
use Rattle.yw_state.specs.declared.tree.Primitive.{Primitive}

-- ---- what stands at an identity

-- A net of a specification by its number, the values of its variables, and how many tokens are on each place.
pub record NetPart : Type 0 where
  pub spec : List ℕ
  pub net : ℕ
  pub vals : Row
  pub tokens : List ℕ

-- An item of a task of the net in which it stands, by the task's number. It has made values only once it is completed.
pub record ItemPart : Type 0 where
  pub task : ℕ
  pub stage : Stage
  pub given : Row
  pub made : Row
  pub who : Option (List ℕ)

-- What a run has still to do, and whether it waits for its compensation.
pub record RunPart : Type 0 where
  pub rest : List Primitive
  pub waiting : Bool

pub record Site : Type 0 where
  pub net : Option NetPart
  pub item : Option ItemPart
  pub run : Option RunPart
  pub suspended : Bool
  pub due : Checks

abbrev pub Sites : Type 0
Sites = Map lexical Site

-- the map of these entries
abbrev pub sites_of_entries : List (Ident × Site) → Sites
sites_of_entries = of_entries {R = lexical}

abbrev pub no_checks : Checks
no_checks = record { pre = false; select = false; post = false }

-- ---- the state

-- Specifications and the roles of persons by name, the rules of each tree by its place, the number that is drawn next, what stands in
-- cases, and how cases ended.
pub record State : Type 0 where
  pub specs : Map lexical Loaded
  pub persons : Map lexical (List (List ℕ))
  pub rules : Map lexical_each (List TreeRule)
  pub next : ℕ
  pub sites : Sites
  pub ended : Map nat_cmp Way

-- the state before anything was done
abbrev pub opening : State
opening = record { specs = empty; persons = empty; rules = empty; next = 1; sites = empty; ended = empty }

-- ---- the six maps: the one map of sites read six ways

abbrev pub net_part : State → Ident → Option NetPart
net_part s i = option_and_then (λ (x : Site). x.net) (get s.sites i)

-- how many tokens are on place c of the net at i; none where no such place is
abbrev pub tokens_on : State → Ident → ℕ → ℕ
tokens_on s i c = unwrap_or (option_and_then (λ (n : NetPart). slice_get n.tokens c) (net_part s i)) 0

abbrev pub item_part : State → Ident → Option ItemPart
item_part s j = option_and_then (λ (x : Site). x.item) (get s.sites j)

abbrev pub run_part : State → Ident → Option RunPart
run_part s r = option_and_then (λ (x : Site). x.run) (get s.sites r)

abbrev pub is_suspended : State → Ident → Bool
is_suspended s j = is_some_and (get s.sites j) (λ x. x.suspended)

abbrev pub due_at : State → Ident → Checks
due_at s j = unwrap_or (option_map (λ (x : Site). x.due) (get s.sites j)) no_checks

-- something that stands passes
abbrev pub some_site : State → (Ident → Site → Bool) → Bool
some_site s p = list_any (λ e. p e.0 e.1) (entries s.sites)

-- ---- what stands, with what the specification says of it

abbrev pub spec_called : State → List ℕ → Option Spec
spec_called s name = option_map (λ (l : Loaded). l.spec) (get s.specs name)

abbrev pub top_called : State → List ℕ → Option Net
top_called s name = option_and_then top_net (spec_called s name)

pub record NetAt : Type 0 where
  pub part : NetPart
  pub net : Net

abbrev pub net_of : State → NetPart → Option Net
net_of s n = option_and_then (λ (spec : Spec). slice_get spec.nets n.net) (spec_called s n.spec)

-- the net that stands at i
abbrev pub net_at : State → Ident → Option NetAt
net_at s i = option_and_then (λ n. option_map (λ net. record { part = n; net = net }) (net_of s n)) (net_part s i)

-- A task, by its number in the net that it is of.
pub record TaskAt : Type 0 where
  pub number : ℕ
  pub task : Task
  pub within : NetAt

abbrev pub task_in : NetAt → ℕ → Option TaskAt
task_in n k = option_map (λ t. record { number = k; task = t; within = n }) (slice_get n.net.tasks k)

-- the task of this name in the net that stands at i
abbrev pub task_at : State → Ident → List ℕ → Option TaskAt
task_at s i name = option_and_then (λ (n : NetAt). option_and_then (task_in n) (task_number n.net name)) (net_at s i)

-- An item with its task.
pub record ItemAt : Type 0 where
  pub part : ItemPart
  pub of_task : TaskAt

abbrev pub item_at : State → Ident → Option ItemAt
item_at s j =
    option_and_then (λ (x : ItemPart). option_and_then (λ n. option_map (λ t. record { part = x; of_task = t }) (task_in n x.task)) (net_at s (parent j)))
    (item_part s j)

-- ---- cases and items: what can be suspended, judged and raised

abbrev pub is_case : State → Ident → Bool
is_case s j = is_case_ident j && is_some (net_part s j)

abbrev pub is_item : State → Ident → Bool
is_item s j = is_some (item_part s j)

abbrev pub is_target : State → Ident → Bool
is_target s j = is_case s j || is_item s j

-- ---- the items of a task

abbrev pub if_of_task : ℕ → Ident → ItemPart → Option (Ident × ItemPart)
if_of_task k j x = if x.task == k then Some (j, x) else None

abbrev pub item_of_task : Ident → ℕ → Ident → Site → Option (Ident × ItemPart)
item_of_task i k j x = if is_child j i then option_and_then (if_of_task k j) x.item else None

-- the items of task k in the net at i, in order of identity
abbrev pub items_of : State → Ident → ℕ → List (Ident × ItemPart)
items_of s i k = filter_map (λ e. item_of_task i k e.0 e.1) (entries s.sites)

-- ---- all that goes, goes by two restrictions

-- all under j goes
abbrev pub drop : Sites → Ident → Sites
drop m j = retain m (λ k. not (under k j))

-- all under each of these goes
abbrev pub drop_all : Sites → List Ident → Sites
drop_all m [] = m
drop_all m (j ∷ js) = drop_all (drop m j) js

abbrev pub without_net : Site → Site
without_net x = record x { net = None }

-- all strictly under j goes, and the net at j
abbrev pub bare : Sites → Ident → Sites
bare m j = update (retain m (λ k. not (strictly_under k j))) j without_net

-- the same, but what stands at r stays
abbrev pub bare_but : Sites → Ident → Ident → Sites
bare_but m j r = update (retain m (λ k. not (strictly_under k j) || same k r)) j without_net
