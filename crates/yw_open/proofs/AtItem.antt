-- What is open where no net stands: an item's start or completion. And the net of an item.
use Rattle.std.proofs.Common.{◌≡◌, ◌∙◌, ℕ, Bool, false, true, List, [], ◌∷◌, None, Option, Some, ap, inl, inr, refl, subst, sym}
use Rattle.std.proofs.lemmas.Bool.{and_from, and_parts}
use Rattle.std.specs.Prelude.{◌&&◌, ◌↔◌, if◌then◌else◌, is_none, is_some, not, option_and_then, option_map, option_to_list}
use Rattle.yw_base.specs.Identity.{case_number, parent}
use Rattle.yw_known.specs.Here.{IsItemHere, as_item_at}
use Rattle.yw_known.specs.declared.here.ItemHere.{ItemHere}
use Rattle.yw_library.specs.Holdings.{Holdings}
use Rattle.yw_library.specs.Names.{names_of}
use Rattle.yw_open.specs.Items.{at_stage, item_open}
use Rattle.yw_open.specs.Opens.{AreOpens}
use Rattle.yw_shown.proofs.Elements.{contained, found_in}
use Rattle.yw_spec.specs.declared.task.Task.{Task}
use Rattle.yw_state.proofs.Tests.{is_not, never, nowhere, some_same}
use Rattle.yw_state.specs.Identity.{Ident}
use Rattle.yw_state.specs.Nets.{is_atomic, task_number}
use Rattle.yw_state.specs.State.{ItemAt, ItemPart, NetAt, NetPart, State, is_item, item_at, item_part, net_at, net_of, net_part, task_in}
use Rattle.yw_state.specs.Words.{busy, is_executing, is_ready}
use Rattle.yw_state.specs.declared.answer.What.{What}
use Rattle.yw_state.specs.declared.answer.What.TheVariants.{Complete, Enter, Start}
use Rattle.yw_state.specs.declared.part.Stage.{Stage}
use Rattle.yw_state.specs.declared.part.Stage.TheVariants as stages
use Rattle.yw_task.proofs.ItemLaw.{its_busy}
use Rattle.yw_tree.proofs.ItemWith.{no_case}
use Rattle.yw_tree.specs.Forest.{IsForest, item_of, top_of}
use Rattle.yw_tree.specs.Places.{net_at as net_found, net_of_run, run_of}
use Rattle.yw_tree.specs.Ways.{net_in, net_of_item}
use Rattle.yw_tree.specs.declared.Forest.{Forest}
use Rattle.yw_tree.specs.declared.NetState.{NetState}
use Rattle.yw_tree.specs.declared.Node.{Node, out-Node}
use Rattle.yw_work.specs.Open.{IsOpen, by_person, by_role, completer, starter}
use Rattle.yw_work.specs.declared.open.By.{By}
use Rattle.yw_work.specs.declared.open.Open.{Open}

-- ---- the net of an item is the one at its identity

module _ (f : Forest) (j : Ident) where
  abbrev below : Option Node → Option NetState
  below o = if is_some o then net_of_item o else net_of_run (run_of f j)

  pub its_net : IsForest f → (n : Node) → item_of f j ≡ Some n → net_found f j ≡ net_in (out-Node n).net
  its_net boxed n found =
      ap (λ (b : Bool). if b then top_of f (case_number j) else below (item_of f j)) (no_case f boxed j n found) ∙ ap below found

-- ---- where no net stands no entry is open

module _ (s : State) (j : Ident) (none : net_part s j ≡ None) where
  no_net : net_at s j ≡ None
  no_net = ap (option_and_then (λ (p : NetPart). option_map (λ net. record { part = p; net = net }) (net_of s p))) none

  no_entry : {A : Type 0} (name : List ℕ) (by : By) → IsOpen s j name Enter by → A
  no_entry name by o =
      nowhere (sym (ap (option_and_then (λ (n : NetAt). option_and_then (task_in n) (task_number n.net name))) no_net) ∙ o.here)

  -- ---- nor anything where no item does

  pub nothing_open : is_item s j ≡ false → AreOpens s j []
  nothing_open without =
      let bare : item_at s j ≡ None =
      ap (option_and_then (λ (x : ItemPart).
      option_and_then (λ n. option_map (λ t. record { part = x; of_task = t }) (task_in n x.task)) (net_at s (parent j))))
      (no_part (item_part s j) without) in
      record {
        exact = λ o. (λ has. absurd (found_in [] o has), λ is. by_kind bare o.task o.what o.by is);
        named = refl;
      }
    where
      no_part : (o : Option ItemPart) → is_some o ≡ false → o ≡ None
      no_part None e = refl
      no_part (Some p) e = never (sym e)

      by_kind : {A : Type 0} → item_at s j ≡ None → (name : List ℕ) (what : What) (by : By) → IsOpen s j name what by → A
      by_kind bare name Enter by o = no_entry name by o
      by_kind bare name Start by o = nowhere (sym bare ∙ o.here)
      by_kind bare name Complete by o = nowhere (sym bare ∙ o.here)

  -- ---- the item that stands there

  module _ (known : Holdings) (f : Forest) (h : ItemHere) (is : IsItemHere known f s j h) where
    abbrev node : Node
    node = h.item.now

    abbrev its_task : Task
    its_task = h.task.now

    abbrev its_item : ItemAt
    its_item = as_item_at known h

    busy_is : busy s j ≡ is_some (out-Node node).run
    busy_is = ap (busy s) (sym is.identity) ∙ its_busy (names_of known) f s node is.stands

    idle : is_some (out-Node node).run ≡ false → not (busy s j) ≡ true
    idle none_hangs = ap not (busy_is ∙ none_hangs)

    abbrev told_there : Option Open
    told_there = at_stage its_task (out-Node node).who (out-Node node).stage

    -- ---- what is told is open

    at_this_stage : is_atomic its_task ≡ true → is_some (out-Node node).run ≡ false → (stage : Stage) → (out-Node node).stage ≡ stage → (o : Open)
        → at_stage its_task (out-Node node).who stage ≡ Some o → IsOpen s j o.task o.what o.by
    at_this_stage atomic free stages.Ready now o told =
        let start : Open = record { task = its_task.name; what = Start; by = by_role its_task.role } in
        subst (λ (p : Open). IsOpen s j p.task p.what p.by) (some_same start o told) (record {
          item = its_item;
          here = is.at;
          may = and_from _ _ atomic (and_from _ _ (ap is_ready now) (idle free));
          named = refl;
          whom = refl;
        })
    at_this_stage atomic free stages.Executing now o told =
        let completion : Open = record { task = its_task.name; what = Complete; by = by_person (out-Node node).who } in
        subst (λ (p : Open). IsOpen s j p.task p.what p.by) (some_same completion o told) (record {
          item = its_item;
          here = is.at;
          may = and_from _ _ atomic (and_from _ _ (ap is_none none) (and_from _ _ (ap is_executing now) (idle free)));
          named = refl;
          whom = refl;
        })
    at_this_stage atomic free stages.Completed now o told = nowhere told

    told_parts : (a r : Bool) (p : Option Open) (o : Open) → (if a && not r then p else None) ≡ Some o → (a ≡ true) × (r ≡ false) × (p ≡ Some o)
    told_parts true true p o e = nowhere e
    told_parts true false p o e = (refl, refl, e)
    told_parts false r p o e = nowhere e

    told_is_open : (o : Open) → item_open node its_task ≡ Some o → IsOpen s j o.task o.what o.by
    told_is_open o told =
        let (atomic, free, stage) = told_parts (is_atomic its_task) (is_some (out-Node node).run) told_there o told in
        at_this_stage atomic free (out-Node node).stage refl o stage

    -- ---- what is open is told

    all_told : (a r : Bool) (p : Option Open) (o : Open) → a ≡ true → r ≡ false → p ≡ Some o → (if a && not r then p else None) ≡ Some o
    all_told true true p o a r e = never (sym r)
    all_told true false p o a r e = e
    all_told false r p o a e f = never a

    ready_told : (stage : Stage) → is_ready stage ≡ true → at_stage its_task (out-Node node).who stage ≡ at_stage its_task (out-Node node).who stages.Ready
    ready_told stages.Ready e = refl
    ready_told stages.Executing e = never e
    ready_told stages.Completed e = never e

    executing_told : (stage : Stage) → is_executing stage ≡ true
        → at_stage its_task (out-Node node).who stage ≡ at_stage its_task (out-Node node).who stages.Executing
    executing_told stages.Ready e = never e
    executing_told stages.Executing e = refl
    executing_told stages.Completed e = never e

    free_is : not (busy s j) ≡ true → is_some (out-Node node).run ≡ false
    free_is e = sym busy_is ∙ is_not _ e

    open_is_told : (name : List ℕ) (what : What) (by : By) → IsOpen s j name what by
        → item_open node its_task ≡ Some (record { task = name; what = what; by = by })
    open_is_told name Enter by o = no_entry name by o
    open_is_told name Start by o =
        let same : o.item ≡ its_item = some_same o.item its_item (sym o.here ∙ is.at) in
        let a = and_parts (is_atomic o.item.of_task.task) (is_ready o.item.part.stage && not (busy s j)) o.may in
        let b = and_parts (is_ready o.item.part.stage) (not (busy s j)) a.1 in
        let atomic : is_atomic its_task ≡ true = ap (λ (y : ItemAt). is_atomic y.of_task.task) (sym same) ∙ a.0 in
        let ready : is_ready (out-Node node).stage ≡ true = ap (λ (y : ItemAt). is_ready y.part.stage) (sym same) ∙ b.0 in
        let called : its_task.name ≡ name = ap (λ (y : ItemAt). y.of_task.task.name) (sym same) ∙ o.named in
        let whom = ap starter (sym same) ∙ sym o.whom in
        all_told (is_atomic its_task) (is_some (out-Node node).run) told_there (record { task = name; what = Start; by = by }) atomic (free_is b.1)
        (ready_told (out-Node node).stage ready ∙ (λ k. Some (record { task = called k; what = Start; by = whom k })))
    open_is_told name Complete by o =
        let same : o.item ≡ its_item = some_same o.item its_item (sym o.here ∙ is.at) in
        let a = and_parts (is_atomic o.item.of_task.task) (is_none (net_part s j) && (is_executing o.item.part.stage && not (busy s j))) o.may in
        let b = and_parts (is_none (net_part s j)) (is_executing o.item.part.stage && not (busy s j)) a.1 in
        let d = and_parts (is_executing o.item.part.stage) (not (busy s j)) b.1 in
        let atomic : is_atomic its_task ≡ true = ap (λ (y : ItemAt). is_atomic y.of_task.task) (sym same) ∙ a.0 in
        let executing : is_executing (out-Node node).stage ≡ true = ap (λ (y : ItemAt). is_executing y.part.stage) (sym same) ∙ d.0 in
        let called : its_task.name ≡ name = ap (λ (y : ItemAt). y.of_task.task.name) (sym same) ∙ o.named in
        let whom = ap completer (sym same) ∙ sym o.whom in
        all_told (is_atomic its_task) (is_some (out-Node node).run) told_there (record { task = name; what = Complete; by = by }) atomic (free_is d.1)
        (executing_told (out-Node node).stage executing ∙ (λ k. Some (record { task = called k; what = Complete; by = whom k })))

    -- ---- as a list

    listed : (p : Option Open) → ((o : Open) → (p ≡ Some o) ↔ IsOpen s j o.task o.what o.by) → AreOpens s j (option_to_list p)
    listed None one = record {
      exact = λ o. (λ has. absurd (found_in [] o has), λ is_open. nowhere ((one o).1 is_open));
      named = refl;
    }
    listed (Some p) one = record {
      exact = λ o. (
        λ has. elim (found_in (p ∷ []) o has) [ inl same ↦ (one o).0 (ap Some same) | inr none_else ↦ absurd none_else ],
        λ is_open. contained (p ∷ []) o (inl (some_same p o ((one o).1 is_open))),
      );
      named = refl;
    }

    pub item_tells : AreOpens s j (option_to_list (item_open node its_task))
    item_tells = listed (item_open node its_task) (λ o. (told_is_open o, open_is_told o.task o.what o.by))
