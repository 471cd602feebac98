-- What each event does: one row for each kind, which computes. The rows from Launch to CompleteEmpty are the paper's transitions, with
-- values and identities of our own; those from Pass on are after the thesis.
use Rattle.std.specs.Prelude.{ℕ, ◌+◌, ◌-◌, ◌&&◌, Bool, true, false, List, [], ◌∷◌, ◌++◌, length, map, replicate, fold, Option, Some, None, option_map, option_and_then, unwrap_or, slice_get, slice_set, if◌then◌else◌}
use Rattle.std.specs.Option.{option_map_or}
use Rattle.std.specs.List.{range_with_len, zip}
use Rattle.yw_base.specs.declared.value.Value.{Value}
use Rattle.yw_spec.specs.declared.spec.Net.{Net}
use Rattle.yw_spec.specs.declared.spec.Place.{Place}
use Rattle.yw_spec.specs.declared.spec.Spec.{Spec}
use Rattle.yw_spec.specs.declared.task.Task.{Task}
use Rattle.yw_state.specs.Allowed.{exit_values, place_numbers}
use Rattle.yw_state.specs.ByName.{Valuation, first_values, given_named}
use Rattle.yw_state.specs.Identity.{Ident, case_ident, is_case_ident}
use Rattle.yw_base.specs.Identity.{child}
use Rattle.yw_state.specs.Judged.{case_place, conclusion_at, has_rules, place_key, rules_at, task_place}
use Rattle.yw_state.specs.Map.{insert, update}
use Rattle.yw_state.specs.Nets.{child_net, is_among, is_atomic}
use Rattle.yw_state.specs.Passing.{entry_values, given_values}
use Rattle.yw_state.specs.State.{State, Site, Sites, NetPart, ItemPart, RunPart, NetAt, TaskAt, ItemAt, bare, drop, drop_all, items_of, net_at, no_checks, spec_called, top_called}
use Rattle.yw_state.specs.Texts.{Said, a_spec, a_test}
use Rattle.yw_state.specs.Values.{Row}
use Rattle.yw_state.specs.declared.part.Checks.{Checks}
use Rattle.yw_state.specs.declared.part.Stage.TheVariants.{Ready, Executing, Completed}
use Rattle.yw_state.specs.declared.part.Way.{Way}
use Rattle.yw_state.specs.declared.tree.Conclusion.{Conclusion}
use Rattle.yw_state.specs.declared.tree.Conclusion.TheVariants.{Exlet}
use Rattle.yw_state.specs.declared.tree.Primitive.{Primitive}
use Rattle.yw_state.specs.declared.tree.TreeKind.{TreeKind}
use Rattle.yw_state.specs.declared.tree.TreeKind.TheVariants.{Pre, Post, Select}
use Rattle.yw_state.specs.declared.tree.TreePlace.{TreePlace}

-- ---- small changes

abbrev pub with_sites : State → Sites → State
with_sites s m = record s { sites = m }

-- numbers up to this one are drawn
abbrev pub with_next : State → ℕ → State
with_next s n = record s { next = n }

-- this stands at j
abbrev pub put : State → Ident → Site → State
put s j x = with_sites s (insert s.sites j x)

-- what stands at j, if something does, is changed
abbrev pub change : State → Ident → (Site → Site) → State
change s j f = with_sites s (update s.sites j f)

abbrev pub with_net : (NetPart → NetPart) → Site → Site
with_net f x = record x { net = option_map f x.net }

abbrev pub with_item : (ItemPart → ItemPart) → Site → Site
with_item f x = record x { item = option_map f x.item }

abbrev pub with_run : (RunPart → RunPart) → Site → Site
with_run f x = record x { run = option_map f x.run }

-- where there is one, a change by it; else the state stays
abbrev pub where_some : {A : Type 0} → Option A → State → (A → State) → State
where_some o s f = option_map_or f o s

-- ---- what is new

abbrev pub empty_site : Site
empty_site = record { net = None; item = None; run = None; suspended = false; due = no_checks }

-- a net with one token, on its input
abbrev pub new_net : List ℕ → ℕ → Net → Row → NetPart
new_net spec k net vals = record { spec = spec; net = k; vals = vals; tokens = slice_set (replicate (length net.places) 0) net.input 1 }

abbrev pub stands : NetPart → Site → Site
stands n x = record x { net = Some n }

abbrev pub new_item : ℕ → Row → Checks → Site
new_item k given due = record empty_site { item = Some (record { task = k; stage = Ready; given = given; made = []; who = None }); due = due }

abbrev pub new_run : List Primitive → Site
new_run ps = record empty_site { run = Some (record { rest = ps; waiting = false }) }

-- ---- checks

abbrev pub due_where : Bool → TreeKind → Checks → Checks
due_where true Pre c = record c { pre = true }
due_where true Select c = record c { select = true }
due_where true Post c = record c { post = true }
due_where b kind c = c

-- the check by the tree at this place is due at j from now on, if that tree has a rule
abbrev pub make_due : State → Ident → TreePlace → State
make_due s j p = change s j (λ x. record x { due = due_where (has_rules s p) p.kind x.due })

abbrev pub without_check : TreeKind → Checks → Checks
without_check Pre c = record c { pre = false }
without_check Select c = record c { select = false }
without_check Post c = record c { post = false }
without_check kind c = c

-- the check is due no longer
abbrev pub pass : State → Ident → TreeKind → State
pass s j kind = change s j (λ x. record x { due = without_check kind x.due })

-- an atomic task's item may have a worklet chosen for it
abbrev pub make_select_due : State → Ident → TaskAt → State
make_select_due s j x = if is_atomic x.task then make_due s j (task_place x Select) else s

-- what is due at a case as it begins
abbrev pub case_checks : State → List ℕ → Checks
case_checks s name = record no_checks { pre = has_rules s (case_place name Pre) }

-- what is due at an item of the task as it comes
abbrev pub item_checks : State → TaskAt → Checks
item_checks s x = record no_checks { pre = has_rules s (task_place x Pre); select = is_atomic x.task && has_rules s (task_place x Select) }

-- ---- tokens

abbrev pub count_on : List ℕ → ℕ → ℕ
count_on tokens c = unwrap_or (slice_get tokens c) 0

abbrev pub one_more : List ℕ → ℕ → List ℕ
one_more tokens c = slice_set tokens c (count_on tokens c + 1)

abbrev pub one_less : List ℕ → ℕ → List ℕ
one_less tokens c = slice_set tokens c (count_on tokens c - 1)

abbrev pub no_more : List ℕ → ℕ → List ℕ
no_more tokens c = slice_set tokens c 0

-- so on each of these places of the net at i
abbrev pub on_each : State → Ident → (List ℕ → ℕ → List ℕ) → List ℕ → State
on_each s i f cs = change s i (with_net (λ n. record n { tokens = fold f n.tokens cs }))

abbrev pub take : State → Ident → List ℕ → State
take s i cs = on_each s i one_less cs

abbrev pub produce : State → Ident → List ℕ → State
produce s i cs = on_each s i one_more cs

abbrev pub wipe : State → Ident → List ℕ → State
wipe s i cs = on_each s i no_more cs

-- ---- persons, specifications and rules

abbrev pub load : State → List ℕ → List ℕ → Said → State
load s name text (a_spec spec) = record s { specs = insert s.specs name (record { text = text; spec = spec }) }
load s name text said = s

abbrev pub add_rule : State → TreePlace → ℕ → Bool → List ℕ → Conclusion → Said → State
add_rule s p at side when conclusion (a_test test) =
    record s { rules = insert s.rules (place_key p) (rules_at s p ++ record { at = at; side = side; when = when; test = test; conclusion = conclusion } ∷ []) }
add_rule s p at side when conclusion said = s

-- ---- a case begins

abbrev pub new_case : List ℕ → Spec → Net → Row → Checks → Site
new_case name spec net vals due = record empty_site { net = Some (new_net name spec.top net vals); due = due }

abbrev pub begin_case : State → ℕ → List ℕ → Row → Spec → Net → State
begin_case s n name vals spec net = with_next (put s (case_ident n) (new_case name spec net vals (case_checks s name))) (n + 1)

-- with a specification and its top net
abbrev pub where_spec : State → List ℕ → (Spec → Net → State) → State
where_spec s name f = where_some (spec_called s name) s (λ spec. where_some (top_called s name) s (f spec))

abbrev pub launch : State → ℕ → List ℕ → Row → State
launch s n name vals = where_spec s name (begin_case s n name vals)

-- ---- items come

abbrev pub add_item : TaskAt → Ident → Checks → State → ℕ × Row → State
add_item x i due s e = put s (child i e.0) (new_item x.number e.1 due)

-- items that are given these, numbered from the first number on
abbrev pub add_items : TaskAt → Ident → ℕ → List Row → State → State
add_items x i first rows s = with_next (fold (add_item x i (item_checks s x)) s (zip (range_with_len first (length rows)) rows)) (first + length rows)

abbrev pub enter_with : State → Ident → TaskAt → ℕ → List ℕ → List Row → State
enter_with s i x first taken rows = add_items x i first rows (take s i taken)

abbrev pub enter : State → Ident → List Place → ℕ → TaskAt → State
enter s i places first x =
    enter_with s i x first (unwrap_or (place_numbers x.within.net places) []) (unwrap_or (entry_values x.task x.within.part.vals) [])

abbrev pub add : State → Ident → Value → ℕ → TaskAt → State
add s i value n x = where_some (given_values x.task x.within.part.vals (Some value)) s (λ given. add_items x i n (given ∷ []) s)

-- ---- items go on

abbrev pub begun : Option (List ℕ) → ItemPart → ItemPart
begun who x = record x { stage = Executing; who = who }

abbrev pub completed : Row → ItemPart → ItemPart
completed out x = record x { stage = Completed; made = out }

abbrev pub complete : State → Ident → Row → ItemAt → State
complete s j out x = make_due (change s j (with_item (completed out))) j (task_place x.of_task Post)

-- a net of this specification begins at item j, with values by name
abbrev pub begin_at : State → Ident → List ℕ → ℕ → Valuation → Option (List ℕ) → Net → State
begin_at s j spec k source who net = change s j (λ at. stands (new_net spec k net (first_values source net)) (with_item (begun who) at))

abbrev pub net_numbered : Spec → Task → Option (ℕ × Net)
net_numbered spec t = option_and_then (λ k. option_map (λ net. (k, net)) (slice_get spec.nets k)) (child_net t)

abbrev pub start_sub : State → Ident → ItemAt → State
start_sub s j x =
    where_some (option_and_then (λ spec. net_numbered spec x.of_task.task) (spec_called s x.of_task.within.part.spec)) s
    (λ e. begin_at s j x.of_task.within.part.spec e.0 (given_named x) x.part.who e.1)

abbrev pub substitute : State → Ident → List ℕ → ItemAt → State
substitute s j name x = where_spec s name (λ spec net. begin_at (pass s j Select) j name spec.top (given_named x) None net)

-- the item's net is at its end, and hands this back
abbrev pub end_net : State → Ident → (NetAt → ItemAt → Row) → ItemAt → State
end_net s j made x = where_some (net_at s j) s (λ n. complete (with_sites s (bare s.sites j)) j (made n x) x)

-- ---- a task exits

abbrev pub idents : List (Ident × ItemPart) → List Ident
idents es = map (λ e. e.0) es

abbrev pub without_items : Ident → State → ℕ → State
without_items i s k = with_sites s (drop_all s.sites (idents (items_of s i k)))

abbrev pub set_values : State → Ident → Row → State
set_values s i vals = change s i (with_net (λ n. record n { vals = vals }))

-- the removal set: its places are emptied, and the items of its tasks go with all under them
abbrev pub empty_region : State → Ident → Task → State
empty_region s i t = fold (without_items i) (wipe s i t.drop_places) t.drop_tasks

-- an exit that marks the output of a case's own net
abbrev pub post_at_output : State → Ident → NetAt → List ℕ → State
post_at_output s i n cs = if is_case_ident i && is_among cs n.net.output then make_due s i (case_place n.part.spec Post) else s

-- first the task's items go
abbrev pub items_gone : State → Ident → TaskAt → State
items_gone s i x = without_items i s x.number

-- then the assignments are made, over the values and the items as they were
abbrev pub values_assigned : State → Ident → TaskAt → State
values_assigned s i x = set_values (items_gone s i x) i (exit_values s i x)

-- then the removal set is emptied
abbrev pub region_emptied : State → Ident → TaskAt → State
region_emptied s i x = empty_region (values_assigned s i x) i x.task

-- and then a token comes to each of the places
abbrev pub exit_to : State → Ident → TaskAt → List ℕ → State
exit_to s i x cs = post_at_output (produce (region_emptied s i x) i cs) i x.within cs

abbrev pub exit : State → Ident → List Place → TaskAt → State
exit s i places x = exit_to s i x (unwrap_or (place_numbers x.within.net places) [])

-- ---- a case is over

abbrev pub end_case : State → ℕ → Way → State
end_case s n way = record s { sites = drop s.sites (case_ident n); ended = insert s.ended n way }

-- ---- exlets begin

abbrev pub primitives_of : Conclusion → List Primitive
primitives_of (Exlet ps) = ps
primitives_of conclusion = []

abbrev pub begin_run : State → Ident → TreeKind → ℕ → ℕ → State
begin_run s j kind node n =
    with_next (put s (child j n) (new_run (option_map_or primitives_of (conclusion_at s j kind node) []))) (n + 1)
