-- A child net is at its end, or an empty task's item is done: what is well stays well.
use Rattle.std.specs.Prelude.{◌≡◌, ◌&&◌, ◌==◌, Bool, true, not, [], Some, None, is_some, option_and_then, refl, if◌then◌else◌}
use Rattle.std.specs.Str.{bytes_eq}
use Rattle.std.proofs.Common.{sym, ◌∙◌, ap, subst}
use Rattle.std.proofs.lemmas.Bool.{and_parts, eqb-true, or_left}
use Rattle.std.proofs.lemmas.Slice.Eq.{bytes_eq-Decides}
use Rattle.std.specs.List.{All}
use Rattle.yw_spec.specs.declared.spec.Spec.{Spec}
use Rattle.yw_invariant.proofs.NetsEnd.{ended_is_well}
use Rattle.yw_invariant.proofs.Places.{deep_is_no_case}
use Rattle.yw_invariant.proofs.ReadyItems as items
use Rattle.yw_invariant.proofs.Tasks as tasks
use Rattle.yw_invariant.proofs.Turning.{Turns, same_option, turned_is_well}
use Rattle.yw_invariant.proofs.Values.{child_fits}
use Rattle.yw_sound.specs.Sound.{HasVar, ReadsSound}
use Rattle.yw_state.proofs.Alike.{due_test}
use Rattle.yw_state.proofs.MapLemmas.{by_option, never, nowhere, some_same}
use Rattle.yw_state.proofs.Tests.{there_and, then_some}
use Rattle.yw_state.proofs.Updated.{renewed}
use Rattle.yw_state.specs.After.{change, complete, completed, end_net, where_some, with_item, with_sites}
use Rattle.yw_state.specs.Allowed.{Allowed, allows}
use Rattle.yw_state.specs.ByName.{made_by_child}
use Rattle.yw_state.specs.Events.{after}
use Rattle.yw_state.specs.Identity.{Ident}
use Rattle.yw_base.specs.Identity.{parent}
use Rattle.yw_state.specs.Joins.{at_output}
use Rattle.yw_state.specs.Map.{get}
use Rattle.yw_state.specs.Nets.{child_net, is_empty}
use Rattle.yw_state.specs.Options.{is_some_and}
use Rattle.yw_state.specs.Passing.{row_fits}
use Rattle.yw_state.specs.State.{State, Site, ItemAt, NetAt, NetPart, bare, due_at, item_at, item_part, net_at, net_part, run_part, spec_called}
use Rattle.yw_state.specs.Texts.{Reader, Said}
use Rattle.yw_state.specs.Well.{IsWell, ItemFits, Stands, is_child_of, is_composite, is_top, wants_net}
use Rattle.yw_state.specs.Words.{busy, clear, has_check, is_executing, is_ready}
use Rattle.yw_state.specs.declared.event.Event.TheVariants as events
use Rattle.yw_state.specs.declared.tree.TreeKind.{TreeKind}
use Rattle.yw_state.specs.declared.tree.TreeKind.TheVariants.{Select}

module _ (reader : Reader) (sound : ReadsSound reader) (s : State) (well : IsWell reader s) (j : Ident) (x : ItemAt) (item : item_at s j ≡ Some x) where
  -- the net that stands at a composite task's item is its child net, which has what the task makes
  has_all : is_composite x ≡ true → (n : NetAt) → net_at s j ≡ Some n → All (HasVar n.net) x.of_task.task.outs
  has_all composite n net =
      let (part, part_is, found) = then_some (tasks.net_by_part s) (net_part s j) n net in
      let right = (and_parts (wants_net x) (if is_composite x then is_child_of x part else is_top s part) (well.nets.of_item j part x part_is item)).1 in
      let child = and_parts (is_some_and (child_net x.of_task.task) (λ k. part.net == k)) (bytes_eq part.spec x.of_task.within.part.spec) (ap (λ b. if b then is_child_of x part else is_top s part) (sym composite) ∙ right) in
      let (c, child_is, number) = there_and (child_net x.of_task.task) (λ k. part.net == k) child.0 in
      let of = tasks.of_spec s j n net in
      let above = tasks.of_spec s (parent j) x.of_task.within (tasks.of_net s j x item).within in
      let same_part : n.part ≡ part = tasks.part_of s part n found in
      let same_spec : of.spec ≡ above.spec = some_same of.spec above.spec (sym of.called ∙ ap (spec_called s) (ap (λ (p : NetPart). p.spec) same_part ∙ (bytes_eq-Decides part.spec x.of_task.within.part.spec).0 child.1) ∙ above.called) in
      let at = ap (λ (sp : Spec). tasks.net_number sp n.part.net) (sym same_spec) ∙ of.at in
      (tasks.task_sound reader sound s well j x item).made n.part.net n.net (child_is ∙ ap Some (sym (ap (λ (p : NetPart). p.net) same_part ∙ eqb-true part.net c number))) at

module _ (reader : Reader) (sound : ReadsSound reader) (s : State) (j : Ident) (said : Said) (well : IsWell reader s) where
  abbrev executing_composite : ItemAt → Bool
  executing_composite x = is_executing x.part.stage && is_composite x

  pub complete_sub_keeps_well : Allowed s (events.CompleteSub j) said → IsWell reader (after s (events.CompleteSub j) said)
  unfolding allows after
  complete_sub_keeps_well allowed =
      let rest = and_parts (clear s j && not (busy s j) && is_some_and (item_at s j) executing_composite) (at_output s j) allowed.0 in
      let calm = and_parts (clear s j && not (busy s j)) (is_some_and (item_at s j) executing_composite) rest.0 in
      by_option (item_at s j)
      (λ none. subst (λ o. IsWell reader (where_some o s (end_net s j made_by_child))) (sym none) well)
      (λ x item.
      let here = and_parts (is_executing x.part.stage) (is_composite x) (ap (λ o. is_some_and o executing_composite) (sym item) ∙ calm.1) in
      subst (λ o. IsWell reader (where_some o s (end_net s j made_by_child))) (sym item)
      (by_option (net_at s j)
      (λ none. subst (λ o. IsWell reader (where_some o s (λ n. complete (with_sites s (bare s.sites j)) j (made_by_child n x) x))) (sym none) well)
      (λ n net.
      subst (λ o. IsWell reader (where_some o s (λ n. complete (with_sites s (bare s.sites j)) j (made_by_child n x) x))) (sym net)
      (ended_is_well reader s j well x item calm.0 (made_by_child n x) (child_fits n x (well.content.net j n net) (has_all reader sound s well j x item here.1 n net))))))

-- ---- an empty task

module _ (reader : Reader) (sound : ReadsSound reader) (s : State) (well : IsWell reader s) (j : Ident) (x : ItemAt) (item : item_at s j ≡ Some x) (ready : is_ready x.part.stage ≡ true) (empty : is_empty x.of_task.task ≡ true) where
  is_due : (y : Site) → Stands s j y → (kind : TreeKind) → has_check y.due kind ≡ true → has_check (due_at s j) kind ≡ true
  is_due y here kind e = due_test kind (get s.sites j) ∙ ap (λ o. is_some_and o (λ (z : Site). has_check z.due kind)) here ∙ e

  -- no worklet is chosen for it
  not_select : (y : Site) → Stands s j y → has_check y.due Select ≡ true → {A : Type 0} → A
  not_select y here e =
      tasks.atomic_is_not_empty x.of_task.task
      (tasks.select_is_atomic reader sound s well j x item (well.marks.due_has_rule j Select (is_due y here Select e)))
      empty

  ends : Turns s j None (with_item (completed [])) (completed []) (λ r. r)
  ends =
      record {
        apart = items.apart reader s well j x item ready;
        no_case = deep_is_no_case j (items.deep reader s well j x item);
        stays = or_left (is_some (item_part s j)) (is_some (run_part s j)) (ap is_some (items.part_there reader s well j x item).1);
        to_net = λ y here. ap (option_and_then (λ (z : Site). z.net)) (sym here) ∙ items.no_net reader s well j x item ready;
        to_item = λ y. refl;
        to_run = λ y. same_option y.run;
        task = λ y. refl;
        suspended = λ y here e. well.marks.suspended j (ap (λ o. is_some_and o (λ (z : Site). z.suspended)) here ∙ e);
        due = λ y here kind e. (well.marks.due j kind (is_due y here kind e), well.marks.due_has_rule j kind (is_due y here kind e));
        select = λ y here e. not_select y here e;
        wants = λ y e. refl;
        waits = λ r e. nowhere (sym (items.no_run reader s well j x item) ∙ e);
        item_fits = items.of_this reader s well j x item (λ y. ItemFits (renewed (completed []) y)) (
            let fit = well.content.item j x item in
            record {
              given = fit.given;
              made = λ e. ap (λ ps. row_fits ps []) ((tasks.task_sound reader sound s well j x item).empty empty);
              not_made = λ e. never e;
              who_atomic = fit.who_atomic;
              who_begun = λ e. refl;
            });
        run_fits = λ r e. nowhere (sym (items.no_run reader s well j x item) ∙ e);
        begins = λ n e. nowhere e;
      }

  empty_done_is_well : IsWell reader (change s j (with_item (completed [])))
  empty_done_is_well = turned_is_well s j None (with_item (completed [])) (completed []) (λ r. r) ends well.parents reader well

module _ (reader : Reader) (sound : ReadsSound reader) (s : State) (j : Ident) (said : Said) (well : IsWell reader s) where
  pub complete_empty_keeps_well : Allowed s (events.CompleteEmpty j) said → IsWell reader (after s (events.CompleteEmpty j) said)
  unfolding allows after
  complete_empty_keeps_well allowed =
      let ready_empty : ItemAt → Bool = λ x. is_ready x.part.stage && is_empty x.of_task.task in
      let parts = and_parts (clear s j) (is_some_and (item_at s j) ready_empty) allowed.0 in
      let (x, item, here) = there_and (item_at s j) ready_empty parts.1 in
      let both = and_parts (is_ready x.part.stage) (is_empty x.of_task.task) here in
      empty_done_is_well reader sound s well j x item both.0 both.1
