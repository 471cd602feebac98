-- An item that a person completes: what is broken first, and what the map has then.
use Rattle.std.proofs.Common.{Bool, List, None, Option, Some, [], ap, false, refl, subst, sym, true, ℕ, ◌++◌, ◌∙◌, ◌∷◌, ◌≡◌}
use Rattle.std.specs.Prelude.{find, is_none, is_some, not, option_and_then, option_map, slice_get, unwrap_or, if◌then◌else◌}
use Rattle.yw_expr.specs.Meaning.{val}
use Rattle.yw_spec.specs.declared.spec.Net.{Net}
use Rattle.yw_spec.specs.declared.task.Assign.{Assign}
use Rattle.yw_spec.specs.declared.task.Task.{Task}
use Rattle.yw_state.proofs.Tests.{map_some, nowhere, some_same}
use Rattle.yw_state.specs.After.{change, complete, completed, due_where, where_some, with_item, with_sites}
use Rattle.yw_state.specs.Broken.{First, placed, test, test_at}
use Rattle.yw_state.specs.Events.{after}
use Rattle.yw_state.specs.Given.{made_values, misfit}
use Rattle.yw_state.specs.Identity.{Ident}
use Rattle.yw_base.specs.Identity.{parent}
use Rattle.yw_state.specs.Options.{is_some_and}
use Rattle.yw_state.specs.Passing.{made_rows_with, set_row}
use Rattle.yw_state.specs.State.{ItemAt, ItemPart, NetAt, Site, State, item_at, item_part, items_of, net_at, task_in}
use Rattle.yw_state.specs.Values.{Row}
use Rattle.yw_state.specs.Words.{busy, is_executing}
use Rattle.yw_state.specs.declared.command.Given.{Given}
use Rattle.yw_state.specs.declared.part.Checks.{Checks}
use Rattle.yw_state.specs.declared.part.Stage.TheVariants.{Completed}
use Rattle.yw_state.specs.declared.rule.Refusal.{Refusal}
use Rattle.yw_state.specs.declared.rule.Rule.TheVariants as rules
use Rattle.yw_state.specs.declared.tree.TreeKind.TheVariants.{Post}
use Rattle.yw_task.proofs.ItemLaw.{its_busy, its_change, its_site, known_part, with_task}
use Rattle.yw_sites.proofs.Twice.{updated_twice}
use Rattle.yw_task.proofs.Started.{site_of}
use Rattle.yw_task.specs.Asked.{complete_fault, is_others}
use Rattle.yw_task.specs.Completes.{CompleteBreaks, Completes, MayComplete, complete_rest, completion_fault, first_undefined, made_of, mapping_fault, name_of, or_else}
use Rattle.yw_task.specs.Standing.{ItemStands, Places}
use Rattle.yw_tree.specs.Entries.{item_part_of, item_site}
use Rattle.yw_tree.specs.Places.{Keeps}
use Rattle.yw_tree.specs.declared.Forest.{Forest}
use Rattle.yw_tree.specs.declared.NetState.{NetState}
use Rattle.yw_tree.specs.declared.Node.{Node, Node-F, out-Node}
use Rattle.yw_tree.specs.declared.Run.{Run}

-- ---- the table

first_of_five : (a b c : Bool) (m : Option (List ℕ))
    → First (test a rules.Stage ∷ test b rules.NotYours ∷ test c rules.Busy ∷ test_at None rules.Output ∷ test_at m rules.Mapping ∷ [])
    (or_else (option_map (placed rules.Mapping) m) (if a then Some rules.Stage else (if b then Some rules.NotYours else (if c then Some rules.Busy else None))))
first_of_five true b c m = refl
first_of_five false true c m = refl
first_of_five false false true m = refl
first_of_five false false false None = refl
first_of_five false false false (Some at) = refl

map_twice : {A B C : Type 0} (g : A → B) (h : B → C) (o : Option A) → option_map (λ x. h (g x)) o ≡ option_map h (option_map g o)
map_twice g h None = refl
map_twice g h (Some x) = refl

-- the variable's name, as the definitions find it
abbrev named : Net → List Assign → Row → Option (List ℕ)
named net set row = option_map (λ (a : Assign). name_of net a.var) (find (λ (a : Assign). is_none (val a.value row)) set)

abbrev mapped : State → Ident → List Given → ItemAt → Option (List ℕ)
mapped s j gs y = named y.of_task.within.net y.of_task.task.set (set_row y.of_task.task (made_rows_with (items_of s (parent j) y.part.task) j (unwrap_or (made_values y.of_task.task.outs gs) [])) y.of_task.within.part.vals)

module _ (names : ℕ → List ℕ) (f : Forest) (s : State) (x : ItemAt) (net : Net) (vals so_far : Row) (n : Node) (out : Row) (gs : List Given) (h : MayComplete names f s x net vals so_far n out gs) where
  its_mapping : option_and_then (mapped s (out-Node n).id gs) (item_at s (out-Node n).id) ≡ option_map (name_of net) (first_undefined x.of_task.task.set (made_of x.of_task.task so_far out ++ vals))
  its_mapping =
      let t : Task = x.of_task.task in
      let i = (out-Node n).id in
      ap (option_and_then (mapped s i gs)) h.known
      ∙ ap (λ (o : Option Row). named x.of_task.within.net t.set (set_row t (made_rows_with (items_of s (parent i) x.part.task) i (unwrap_or o [])) x.of_task.within.part.vals)) h.given
      ∙ ap (λ (r : Row). named x.of_task.within.net t.set r) h.together
      ∙ ap (λ (w : Net). named w t.set (made_of t so_far out ++ vals)) h.net_is
      ∙ map_twice (λ (a : Assign). a.var) (name_of net) (find (λ (a : Assign). is_none (val a.value (made_of t so_far out ++ vals))) t.set)

  first_there : (who : List ℕ) → First (complete_rest s who (out-Node n).id gs) (completion_fault net x.of_task.task vals so_far n who out)
  first_there who =
      let t : Task = x.of_task.task in
      let i = (out-Node n).id in
      let part = known_part names f s n h.stands x h.known in
      let found : Option Refusal = completion_fault net t vals so_far n who out in
      let executing : is_some_and (item_at s i) (λ (y : ItemAt). not (is_executing y.part.stage)) ≡ not (is_executing (out-Node n).stage) =
      ap (λ o. is_some_and o (λ (y : ItemAt). not (is_executing y.part.stage))) h.known ∙ ap (λ (p : ItemPart). not (is_executing p.stage)) part in
      let others : is_some_and (item_at s i) (λ (y : ItemAt). is_others who y.part.who) ≡ is_others who (out-Node n).who =
      ap (λ o. is_some_and o (λ (y : ItemAt). is_others who y.part.who)) h.known ∙ ap (λ (p : ItemPart). is_others who p.who) part in
      let output : option_and_then (λ (y : ItemAt). misfit y.of_task.task.outs gs) (item_at s i) ≡ None = ap (option_and_then (λ (y : ItemAt). misfit y.of_task.task.outs gs)) h.known ∙ h.fits in
      let places : Option (List ℕ) = option_map (name_of net) (first_undefined t.set (made_of t so_far out ++ vals)) in
      let fault : mapping_fault net (first_undefined t.set (made_of t so_far out ++ vals)) ≡ option_map (placed rules.Mapping) places = map_twice (name_of net) (placed rules.Mapping) (first_undefined t.set (made_of t so_far out ++ vals)) in
      subst (λ (b : Bool). First (test b rules.Stage ∷ test (is_some_and (item_at s i) (λ (y : ItemAt). is_others who y.part.who)) rules.NotYours ∷ test (busy s i) rules.Busy ∷ test_at (option_and_then (λ (y : ItemAt). misfit y.of_task.task.outs gs) (item_at s i)) rules.Output ∷ test_at (option_and_then (mapped s i gs) (item_at s i)) rules.Mapping ∷ []) found) (sym executing)
      (subst (λ (b : Bool). First (test (not (is_executing (out-Node n).stage)) rules.Stage ∷ test b rules.NotYours ∷ test (busy s i) rules.Busy ∷ test_at (option_and_then (λ (y : ItemAt). misfit y.of_task.task.outs gs) (item_at s i)) rules.Output ∷ test_at (option_and_then (mapped s i gs) (item_at s i)) rules.Mapping ∷ []) found) (sym others)
      (subst (λ (b : Bool). First (test (not (is_executing (out-Node n).stage)) rules.Stage ∷ test (is_others who (out-Node n).who) rules.NotYours ∷ test b rules.Busy ∷ test_at (option_and_then (λ (y : ItemAt). misfit y.of_task.task.outs gs) (item_at s i)) rules.Output ∷ test_at (option_and_then (mapped s i gs) (item_at s i)) rules.Mapping ∷ []) found) (sym (its_busy names f s n h.stands))
      (subst (λ (o : Option (List ℕ)). First (test (not (is_executing (out-Node n).stage)) rules.Stage ∷ test (is_others who (out-Node n).who) rules.NotYours ∷ test (is_some (out-Node n).run) rules.Busy ∷ test_at o rules.Output ∷ test_at (option_and_then (mapped s i gs) (item_at s i)) rules.Mapping ∷ []) found) (sym output)
      (subst (λ (o : Option (List ℕ)). First (test (not (is_executing (out-Node n).stage)) rules.Stage ∷ test (is_others who (out-Node n).who) rules.NotYours ∷ test (is_some (out-Node n).run) rules.Busy ∷ test_at None rules.Output ∷ test_at o rules.Mapping ∷ []) found) (sym its_mapping)
      (subst (λ (o : Option Refusal). First (test (not (is_executing (out-Node n).stage)) rules.Stage ∷ test (is_others who (out-Node n).who) rules.NotYours ∷ test (is_some (out-Node n).run) rules.Busy ∷ test_at None rules.Output ∷ test_at places rules.Mapping ∷ []) (or_else o (complete_fault n who))) (sym fault)
      (first_of_five (not (is_executing (out-Node n).stage)) (is_others who (out-Node n).who) (is_some (out-Node n).run) places))))))

-- the task of an item that is known is the net's with its number
task_of : (p : ItemPart) (o : Option NetAt) (x : ItemAt) → option_and_then (with_task p) o ≡ Some x → slice_get x.of_task.within.net.tasks p.task ≡ Some x.of_task.task
task_of p None x e = nowhere e
task_of p (Some w) x e =
    let m = map_some (λ t. record { part = p; of_task = t }) (task_in w p.task) x e in
    let u = map_some (λ (t : Task). record { number = p.task; task = t; within = w }) (slice_get w.net.tasks p.task) m.0 m.1 in
    subst (λ (z : ItemAt). slice_get z.of_task.within.net.tasks p.task ≡ Some z.of_task.task) m.2
    (subst (λ z. slice_get z.within.net.tasks p.task ≡ Some z.task) u.2 u.1)

known_with : (names : ℕ → List ℕ) (f : Forest) (s : State) (n : Node) (h : ItemStands names f s n) (x : ItemAt) → item_at s (out-Node n).id ≡ Some x → option_and_then (with_task (item_part_of n)) (net_at s (parent (out-Node n).id)) ≡ Some x
known_with names f s n h x e =
    let part : item_part s (out-Node n).id ≡ Some (item_part_of n) = ap (option_and_then (λ (y : Site). y.item)) (its_site names f s n h) in
    sym (ap (option_and_then (λ (p : ItemPart). option_and_then (with_task p) (net_at s (parent (out-Node n).id)))) part) ∙ e

pub completes_first : (net : Net) (task : Task) (vals so_far : Row) (n : Node) (who : List ℕ) (out : Row) → slice_get net.tasks (out-Node n).task ≡ Some task → CompleteBreaks net vals so_far n who out (completion_fault net task vals so_far n who out)
completes_first net task vals so_far n who out at = λ names f s x gs h.
    let there : slice_get net.tasks (out-Node n).task ≡ Some x.of_task.task = subst (λ (w : Net). slice_get w.tasks (out-Node n).task ≡ Some x.of_task.task) h.net_is (task_of (item_part_of n) (net_at s (parent (out-Node n).id)) x (known_with names f s n h.stands x h.known)) in
    subst (λ (t : Task). First (complete_rest s who (out-Node n).id gs) (completion_fault net t vals so_far n who out)) (some_same x.of_task.task task (sym there ∙ at)) (first_there names f s x net vals so_far n out gs h who)

-- ---- what it does

abbrev Level : Type 0
Level = Node-F NetState Node Run

pub completes : (old new : Node) (out : Row) (due : Checks) → out-Node new ≡ record (out-Node old) { stage = Completed; made = out; due = due_where due.post Post (out-Node old).due } → Completes old out due new
unfolding after
completes old new out due e =
    λ names f s x said h known is_due.
    let i = (out-Node old).id in
    let g : Site → Site = with_item (completed out) in
    let keeps : Keeps old new = record { id = ap (λ (l : Level). l.id) e; task = ap (λ (l : Level). l.task) e; net = ap (λ (l : Level). l.net) e; run = ap (λ (l : Level). l.run) e } in
    let by : Bool → Site → Site = λ b y. record y { due = due_where b Post y.due } in
    let own : item_site names new ≡ by due.post (g (item_site names old)) = ap (site_of names) e in
    let whole : where_some (item_at s i) s (complete s i out) ≡ change s i (λ y. by due.post (g y)) =
    ap (λ o. where_some o s (complete s i out)) known ∙ ap (λ b. change (change s i g) i (by b)) (sym is_due) ∙ ap (with_sites s) (updated_twice s.sites i g (by due.post)) in
    subst (λ (u : State). Places names f s u old new) (sym whole) (its_change names f s old h new (λ y. by due.post (g y)) keeps own)
