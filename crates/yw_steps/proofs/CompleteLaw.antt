-- The completion of an item, on the whole forest.
use Rattle.std.proofs.Common.{Bool, List, None, Option, Some, [], ap, cond, length, refl, subst, sym, true, ℕ, ◌++◌, ◌∙◌, ◌∷◌, ◌≡◌, ◌≤◌}
use Rattle.std.proofs.lemmas.Bool.{eq-eqb}
use Rattle.std.specs.List.{list_all}
use Rattle.std.specs.Prelude.{is_some, option_and_then, option_map, slice_get, if◌then◌else◌}
use Rattle.yw_asked.proofs.Fitting.{made_there}
use Rattle.yw_base.specs.Identity.{is_identity, parent}
use Rattle.yw_expr.specs.Meaning.{val}
use Rattle.yw_nest.proofs.Known.{no_case}
use Rattle.yw_nest.proofs.Outer.{parent_identity}
use Rattle.yw_sites.proofs.Prefix.{is_child_of}
use Rattle.yw_spec.specs.declared.spec.Net.{Net}
use Rattle.yw_spec.specs.declared.task.Assign.{Assign}
use Rattle.yw_spec.specs.declared.task.Many.{Many}
use Rattle.yw_spec.specs.declared.task.Task.{Task}
use Rattle.yw_state.proofs.Tests.{by_option, map_some, some_same, then_some}
use Rattle.yw_state.specs.After.{due_where, with_sites}
use Rattle.yw_state.specs.Broken.{First}
use Rattle.yw_state.specs.Events.{after}
use Rattle.yw_state.specs.Given.{made_values, misfit}
use Rattle.yw_state.specs.Identity.{Ident}
use Rattle.yw_state.specs.Map.{entries, get}
use Rattle.yw_state.specs.Passing.{is_defined, made_rows_with, row_fits, set_row}
use Rattle.yw_state.specs.State.{ItemAt, ItemPart, NetAt, NetPart, State, TaskAt, if_of_task, item_at, item_of_task, item_part, items_of, net_at, task_in}
use Rattle.yw_state.specs.Texts.{nothing}
use Rattle.yw_state.specs.Values.{Row}
use Rattle.yw_state.specs.Well.{item_limit}
use Rattle.yw_state.specs.declared.command.Given.{Given}
use Rattle.yw_state.specs.declared.event.Event.TheVariants as events
use Rattle.yw_state.specs.declared.part.Checks.{Checks}
use Rattle.yw_state.specs.declared.part.Stage.TheVariants.{Completed}
use Rattle.yw_state.specs.declared.rule.Refusal.{Refusal}
use Rattle.yw_state.specs.declared.tree.TreeKind.TheVariants.{Post}
use Rattle.yw_steps.proofs.Gathered.{only_one, speaks_many, speaks_one}
use Rattle.yw_steps.proofs.ItemFound.{it_stands, its_id}
use Rattle.yw_steps.proofs.NetFound.{net_stands, part_is}
use Rattle.yw_steps.specs.Completes.{CompleteBreaks, Completes, Finds, IsItemIn, ItemIs, defined_once, outs_once, speaks_once}
use Rattle.yw_task.proofs.CompleteLaw.{completes, completes_first}
use Rattle.yw_task.proofs.EnterAsk.{its_items}
use Rattle.yw_task.proofs.ItemLaw.{its_site, known_part}
use Rattle.yw_task.specs.Completes.{complete_rest, completion_fault, made_of, speaks_of}
use Rattle.yw_task.specs.Standing.{ItemStands}
use Rattle.yw_tree.proofs.Parents.{parent_child}
use Rattle.yw_base.proofs.Parents.{identity_long}
use Rattle.yw_tree.specs.Entries.{item_part_of, item_site}
use Rattle.yw_tree.specs.Forest.{IsForest, item_of, item_replaced, sites_of}
use Rattle.yw_tree.specs.Shows.{items_in}
use Rattle.yw_tree.specs.declared.Forest.{Forest}
use Rattle.yw_tree.specs.declared.NetState.{NetState, out-NetState}
use Rattle.yw_tree.specs.declared.Node.{Node, Node-F, out-Node}
use Rattle.yw_tree.specs.declared.Run.{Run}

abbrev item_with : ItemPart → TaskAt → ItemAt
item_with p t = record { part = p; of_task = t }

abbrev task_with : NetAt → ℕ → Task → TaskAt
task_with w k t = record { number = k; task = t; within = w }

abbrev with_task : ItemPart → NetAt → Option ItemAt
with_task p w = option_map (item_with p) (task_in w p.task)

-- ---- the item and its net, in a state

module _ (f : Forest) (boxed : IsForest f) (j : Ident) (identity : is_identity j ≡ true) (net : Net) (place : IsItemIn f net j) (task : Task) (of_task : slice_get net.tasks (out-Node place.item).task ≡ Some task)
    (names : ℕ → List ℕ) (s : State) (sites : s.sites ≡ sites_of names f) (is : ItemIs s j net) where
  id : (out-Node place.item).id ≡ j
  id = its_id f boxed j identity place.item place.found

  stands : ItemStands names f s place.item
  stands = it_stands f boxed j identity place.item place.found names s sites

  known_there : item_at s (out-Node place.item).id ≡ Some is.there
  known_there = subst (λ k. item_at s k ≡ Some is.there) (sym id) is.known

  part_there : is.there.part ≡ item_part_of place.item
  part_there = known_part names f s place.item stands is.there known_there

  the_part : (p : ItemPart) × (item_part s j ≡ Some p) × (option_and_then (with_task p) (net_at s (parent j)) ≡ Some is.there)
  the_part = then_some (λ (p : ItemPart). option_and_then (with_task p) (net_at s (parent j))) (item_part s j) is.there is.known

  the_net : (w : NetAt) × (net_at s (parent j) ≡ Some w) × (with_task the_part.0 w ≡ Some is.there)
  the_net = then_some (with_task the_part.0) (net_at s (parent j)) is.there the_part.2

  tasked : (t : TaskAt) × (task_in the_net.0 the_part.0.task ≡ Some t) × (item_with the_part.0 t ≡ is.there)
  tasked = map_some (item_with the_part.0) (task_in the_net.0 the_part.0.task) is.there the_net.2

  the_task : (t : Task) × (slice_get the_net.0.net.tasks the_part.0.task ≡ Some t) × (task_with the_net.0 the_part.0.task t ≡ tasked.0)
  the_task = map_some (task_with the_net.0 the_part.0.task) (slice_get the_net.0.net.tasks the_part.0.task) tasked.0 tasked.1

  within_is : is.there.of_task.within ≡ the_net.0
  within_is = sym (ap (λ (t : TaskAt). t.within) the_task.2 ∙ ap (λ (x : ItemAt). x.of_task.within) tasked.2)

  pub task_is : is.there.of_task.task ≡ task
  task_is =
      let net_same : the_net.0.net ≡ net = sym (ap (λ (w : NetAt). w.net) within_is) ∙ is.net_is in
      let number : the_part.0.task ≡ (out-Node place.item).task = ap (λ (x : ItemAt). x.part.task) tasked.2 ∙ ap (λ (p : ItemPart). p.task) part_there in
      let at : slice_get net.tasks (out-Node place.item).task ≡ Some the_task.0 = sym (λ i. slice_get (net_same i).tasks (number i)) ∙ the_task.1 in
      sym (ap (λ (t : TaskAt). t.task) the_task.2 ∙ ap (λ (x : ItemAt). x.of_task.task) tasked.2) ∙ some_same the_task.0 task (sym at ∙ of_task)

  outer_identity : is_identity (parent j) ≡ true
  outer_identity = parent_identity j identity (no_case f boxed j place.item place.found)

  vals_are : is.there.of_task.within.part.vals ≡ (out-NetState place.outer).vals
  vals_are =
      ap (λ (w : NetAt). w.part.vals) within_is
      ∙ ap (λ (p : NetPart). p.vals) (part_is f boxed (parent j) outer_identity place.outer place.stands_in names s sites the_net.0 the_net.1)

  items_are : items_of s (parent j) is.there.part.task ≡ items_of s (parent j) (out-Node place.item).task
  items_are = ap (λ (p : ItemPart). items_of s (parent j) p.task) part_there

  -- where no more than one item may stand, it is this one
  alone : task.many ≡ None → items_of s (parent j) (out-Node place.item).task ≡ (j, item_part_of place.item) ∷ []
  alone none =
      let k = (out-Node place.item).task in
      let p : ItemPart = item_part_of place.item in
      let site : get s.sites j ≡ Some (item_site names place.item) = subst (λ z. get s.sites z ≡ Some (item_site names place.item)) id (its_site names f s place.item stands) in
      let gives : item_of_task (parent j) k j (item_site names place.item) ≡ Some (j, p) =
      ap (λ (b : Bool). cond b (if_of_task k j p) None) (is_child_of j (parent j) (parent_child j (identity_long j identity)))
      ∙ ap (λ (b : Bool). cond b (Some (j, p)) None) (eq-eqb k k refl) in
      let few : length (items_of s (parent j) k) ≤ 1 =
      subst (λ es. length es ≤ 1) items_are (subst (λ (o : Option Many). length (items_of s (parent j) is.there.part.task) ≤ item_limit o) (ap (λ (t : Task). t.many) task_is ∙ none) is.few) in
      only_one (λ e. item_of_task (parent j) k e.0 e.1) j (item_site names place.item) (j, p) gives (entries s.sites) site few

  pub together : (out so_far : Row) → row_fits task.outs out ≡ true → (is_some task.many ≡ true → so_far ≡ outs_once j out (items_in place.outer (out-Node place.item).task) 0 task.outs)
      → speaks_of s j is.there out ≡ made_of task so_far out ++ (out-NetState place.outer).vals
  together out so_far fits gathered =
      let k = (out-Node place.item).task in
      let vals = (out-NetState place.outer).vals in
      let ns = items_in place.outer k in
      let whole : speaks_of s j is.there out ≡ set_row task (made_rows_with (items_of s (parent j) k) j out) vals = (λ i. set_row (task_is i) (made_rows_with (items_are i) j out) (vals_are i)) in
      let h = net_stands f boxed (parent j) outer_identity place.outer place.stands_in names s sites the_net.0 the_net.1 in
      by_option task.many
      (λ none.
      whole ∙ ap (λ es. set_row task (made_rows_with es j out) vals) (alone none) ∙ speaks_one task none j out fits (item_part_of place.item) vals
      ∙ sym (ap (λ (o : Option Many). (if is_some o then so_far else out) ++ vals) none))
      (λ m some.
      whole ∙ ap (λ es. set_row task (made_rows_with es j out) vals) (its_items names f s (parent j) the_net.0.net place.outer h k) ∙ speaks_many j out task m some ns vals
      ∙ ap (λ (r : Row). r ++ vals) (sym (gathered (ap is_some some)))
      ∙ sym (ap (λ (o : Option Many). (if is_some o then so_far else out) ++ vals) some))

  -- whether its assignments are defined, by what is at hand
  pub defined_is : (out : Row) → row_fits is.there.of_task.task.outs out ≡ true
      → is_defined is.there.of_task.task (made_rows_with (items_of s (parent j) is.there.part.task) j out) is.there.of_task.within.part.vals
      ≡ defined_once task (items_in place.outer (out-Node place.item).task) (out-NetState place.outer).vals j out
  defined_is out fits_there =
      let ns = items_in place.outer (out-Node place.item).task in
      let fits : row_fits task.outs out ≡ true = subst (λ (t : Task). row_fits t.outs out ≡ true) task_is fits_there in
      let row : speaks_of s j is.there out ≡ speaks_once task ns (out-NetState place.outer).vals j out = together out (outs_once j out ns 0 task.outs) fits (λ many. refl) in
      λ i. list_all (λ (a : Assign). is_some (val a.value (row i))) (task_is i).set

  pub net_first : (out so_far : Row) → (who : List ℕ) (gs : List Given) → misfit is.there.of_task.task.outs gs ≡ None → made_values is.there.of_task.task.outs gs ≡ Some out
      → (is_some task.many ≡ true → so_far ≡ outs_once j out (items_in place.outer (out-Node place.item).task) 0 task.outs)
      → First (complete_rest s who j gs) (completion_fault net task (out-NetState place.outer).vals so_far place.item who out)
  net_first out so_far who gs none made gathered =
      let vals = (out-NetState place.outer).vals in
      let there = made_there is.there.of_task.task.outs gs none in
      let fits_there : row_fits is.there.of_task.task.outs out ≡ true = subst (λ r. row_fits is.there.of_task.task.outs r ≡ true) (some_same there.0 out (sym there.1 ∙ made)) there.2 in
      let fits : row_fits task.outs out ≡ true = subst (λ (t : Task). row_fits t.outs out ≡ true) task_is fits_there in
      let all : speaks_of s (out-Node place.item).id is.there out ≡ made_of is.there.of_task.task so_far out ++ vals =
      ap (λ k. speaks_of s k is.there out) id ∙ together out so_far fits gathered ∙ ap (λ (t : Task). made_of t so_far out ++ vals) (sym task_is) in
      let found = completion_fault net task vals so_far place.item who out in
      subst (λ k. First (complete_rest s who k gs) found) id
      (completes_first net task vals so_far place.item who out of_task names f s is.there gs (record { stands = stands; known = known_there; net_is = is.net_is; fits = none; given = made; together = all }))

-- ---- the calls

module _ (f : Forest) (boxed : IsForest f) (j : Ident) (identity : is_identity j ≡ true) (net : Net) (who : List ℕ) (out : Row) where
  pub breaks : (found : Option Refusal) → Finds f net j who out found → CompleteBreaks f net j who out found
  breaks found h = λ names s gs is sites none made.
      subst (First (complete_rest s who j gs)) (sym h.is) (net_first f boxed j identity net h.place h.task h.of_task names s sites is out h.so_far who gs none made h.together)

abbrev Level : Type 0
Level = Node-F NetState Node Run

pub completed : (f : Forest) → IsForest f → (j : Ident) → is_identity j ≡ true → (net : Net) (out : Row) (due : Checks) (old new : Node) → item_of f j ≡ Some old
    → out-Node new ≡ record (out-Node old) { stage = Completed; made = out; due = due_where due.post Post (out-Node old).due } → Completes net j out due f (item_replaced f j new)
completed f boxed j identity net out due old new found e = λ names s sites may.
    let id = its_id f boxed j identity old found in
    let does = completes old new out due e in
    let known_of : (z : State) → (x : ItemAt) → item_at z j ≡ Some x → item_at z (out-Node old).id ≡ Some x = λ z x h. subst (λ k. item_at z k ≡ Some x) (sym id) h in
    record {
      leads = λ others r said are so.
          subst (λ k. after r (events.Complete k out) said ≡ with_sites r (sites_of others (item_replaced f k new))) id
          (does others f r so.item_is.there said (it_stands f boxed j identity old found others r are) (known_of r so.item_is.there so.item_is.known) so.rule).map;
      boxed = subst (λ k. IsForest (item_replaced f k new)) id
          (does names f s may.item_is.there nothing (it_stands f boxed j identity old found names s sites) (known_of s may.item_is.there may.item_is.known) may.rule).kept;
    }
