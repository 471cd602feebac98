-- A worklet begins at an item: what is well stays well.
use Rattle.std.specs.Prelude.{◌≡◌, ◌<◌, ◌&&◌, ℕ, ◌==◌, true, false, not, List, length, Some, None, is_some, nat_lt, option_and_then, option_map, slice_get, refl, if◌then◌else◌}
use Rattle.std.proofs.Common.{sym, ◌∙◌, ap, subst, arith}
use Rattle.std.proofs.lemmas.Bool.{and_from, and_parts, eq-eqb, ltb-true, or_left, or_right}
use Rattle.yw_spec.specs.declared.spec.Net.{Net}
use Rattle.yw_spec.specs.declared.spec.Spec.{Spec}
use Rattle.yw_state.proofs.NetLevels.{level_counts}
use Rattle.yw_invariant.proofs.NetsBegin.{loaded_sound, new_net_fits}
use Rattle.yw_invariant.proofs.Places.{deep_is_no_case}
use Rattle.yw_invariant.proofs.ReadyItems as items
use Rattle.yw_invariant.proofs.Tasks as tasks
use Rattle.yw_invariant.proofs.Turning.{Begins, Turns, same_option, turned_is_well}
use Rattle.yw_invariant.proofs.Values.{given_small}
use Rattle.yw_sound.specs.Sound.{ReadsSound}
use Rattle.yw_state.proofs.Absent.{part-kept}
use Rattle.yw_state.proofs.Alike.{due_test, item_in, net_by, net_in}
use Rattle.yw_state.proofs.MapLemmas.{by_name, by_option, get-update_same, never, nowhere, some_same}
use Rattle.yw_state.proofs.MarksWell.{pass_is_well}
use Rattle.yw_state.proofs.Tests.{there_and}
use Rattle.yw_state.proofs.Updated.{renewed}
use Rattle.yw_state.specs.After.{begin_at, begun, new_net, pass, stands, substitute, where_some, with_item, without_check}
use Rattle.yw_state.specs.Allowed.{Allowed, allows, comes_next, depth_end}
use Rattle.yw_state.specs.ByName.{first_values, given_named}
use Rattle.yw_state.specs.Events.{after}
use Rattle.yw_state.specs.Identity.{Ident}
use Rattle.yw_base.specs.Identity.{parent}
use Rattle.yw_state.specs.Map.{get}
use Rattle.yw_state.specs.Nets.{is_atomic, top_net}
use Rattle.yw_state.specs.Options.{is_some_and}
use Rattle.yw_state.specs.State.{State, Site, ItemAt, ItemPart, NetPart, due_at, item_at, item_part, net_at, net_part, run_part, spec_called, top_called}
use Rattle.yw_state.specs.Texts.{Reader, Said, nothing}
use Rattle.yw_state.specs.Well.{IsWell, ItemFits, Stands, is_child_of, is_composite, is_top, wants_net}
use Rattle.yw_state.specs.Words.{busy, has_check, is_first_due, is_ready}
use Rattle.yw_state.specs.declared.event.Event.TheVariants as events
use Rattle.yw_state.specs.declared.part.Checks.{Checks}
use Rattle.yw_state.specs.declared.tree.TreeKind.{TreeKind}
use Rattle.yw_state.specs.declared.tree.TreeKind.TheVariants.{Select}

module _ (reader : Reader) (sound : ReadsSound reader) (s : State) (well : IsWell reader s) (j : Ident) (x : ItemAt) (item : item_at s j ≡ Some x) (select : has_check (due_at s j) Select ≡ true) (short : length j < depth_end) where
  ready : is_ready x.part.stage ≡ true
  ready =
      let (y, is, here) = there_and (item_part s j) (λ z. is_ready z.stage) (well.marks.select j select) in
      ap (λ (z : ItemPart). is_ready z.stage) (same_part y is) ∙ here
    where
      same_part : (y : ItemPart) → item_part s j ≡ Some y → x.part ≡ y
      same_part y is = tasks.part_of_item s j x y item is

  atomic : is_atomic x.of_task.task ≡ true
  atomic = tasks.select_is_atomic reader sound s well j x item (well.marks.due_has_rule j Select select)

  -- the choice is made
  abbrev passed : State
  passed = pass s j Select

  passed_is_well : IsWell reader passed
  passed_is_well = pass_is_well reader s j nothing well Select

  net_kept : (k : Ident) → net_part passed k ≡ net_part s k
  net_kept k = part-kept (λ z. z.net) (λ z. record z { due = without_check Select z.due }) (λ z. refl) s.sites j k

  part_kept : (k : Ident) → item_part passed k ≡ item_part s k
  part_kept k = part-kept (λ z. z.item) (λ z. record z { due = without_check Select z.due }) (λ z. refl) s.sites j k

  item_now : item_at passed j ≡ Some x
  item_now =
      ap (λ o. item_in o (net_at passed (parent j))) (part_kept j)
      ∙ ap (λ o. item_in (item_part s j) (option_and_then (net_by s) o)) (net_kept (parent j))
      ∙ item

  no_select : (y : Site) → Stands passed j y → has_check y.due Select ≡ false
  no_select y here =
      by_option (get s.sites j)
      (λ none. nowhere (sym (get-update_same by_name s.sites j (λ z. record z { due = without_check Select z.due }) ∙ ap (option_map (λ (z : Site). record z { due = without_check Select z.due })) none) ∙ here))
      (λ z some.
      ap (λ (w : Site). has_check w.due Select)
      (some_same y (record z { due = without_check Select z.due })
      (sym here ∙ get-update_same by_name s.sites j (λ w. record w { due = without_check Select w.due }) ∙ ap (option_map (λ (w : Site). record w { due = without_check Select w.due })) some)))

  is_due : (y : Site) → Stands passed j y → (kind : TreeKind) → has_check y.due kind ≡ true → has_check (due_at passed j) kind ≡ true
  is_due y here kind e = due_test kind (get passed.sites j) ∙ ap (λ o. is_some_and o (λ (z : Site). has_check z.due kind)) here ∙ e

  module _ (name : List ℕ) (spec : Spec) (net : Net) (called : spec_called s name ≡ Some spec) (top : slice_get spec.nets spec.top ≡ Some net) where
    abbrev part : NetPart
    part = new_net name spec.top net (first_values (given_named x) net)

    abbrev begins_there : Site → Site
    begins_there y = stands part (with_item (begun None) y)

    begins : Begins passed j part
    begins =
        record {
          at = record { part = part; net = net };
          is = ap (net_in part) called ∙ ap (λ o. option_map (λ other. record { part = part; net = other }) o) top;
          fits = new_net_fits name spec.top net (given_named x) (given_small x (well.content.item j x item)) (loaded_sound reader sound s well name spec called spec.top net top).begins;
          of_item = items.of_this reader passed passed_is_well j x item_now (λ y. (if is_composite y then is_child_of y part else is_top passed part) ≡ true)
              (ap (λ o. if is_some o then is_child_of x part else is_top passed part) (tasks.atomic_has_no_child x.of_task.task atomic)
              ∙ ap (λ o. is_some_and o (λ (other : Spec). spec.top == other.top)) called
              ∙ eq-eqb spec.top spec.top refl);
          of_run = λ r e. nowhere (sym (items.no_run reader passed passed_is_well j x item_now) ∙ e);
          deep = let some = level_counts passed j in omega (arith, some, short);
        }

    substitutes : Turns passed j (Some part) begins_there (begun None) (λ r. r)
    substitutes =
        record {
          apart = items.apart reader passed passed_is_well j x item_now ready;
          no_case = deep_is_no_case j (items.deep reader s well j x item);
          stays = or_left (is_some (item_part passed j)) (is_some (run_part passed j)) (ap is_some (items.part_there reader passed passed_is_well j x item_now).1);
          to_net = λ y here. refl;
          to_item = λ y. refl;
          to_run = λ y. same_option y.run;
          task = λ y. refl;
          suspended = λ y here e. passed_is_well.marks.suspended j (ap (λ o. is_some_and o (λ (z : Site). z.suspended)) here ∙ e);
          due = λ y here kind e. (passed_is_well.marks.due j kind (is_due y here kind e), passed_is_well.marks.due_has_rule j kind (is_due y here kind e));
          select = λ y here e. never (sym (no_select y here) ∙ e);
          wants = items.of_this reader passed passed_is_well j x item_now (λ y. wants_net (renewed (begun None) y) ≡ true) (or_right (is_composite x) (is_atomic x.of_task.task && true) (and_from _ _ atomic refl));
          waits = λ r e. nowhere (sym (items.no_run reader passed passed_is_well j x item_now) ∙ e);
          item_fits = items.of_this reader passed passed_is_well j x item_now (λ y. ItemFits (renewed (begun None) y)) (
              let fit = well.content.item j x item in
              record {
                given = fit.given;
                made = λ e. never e;
                not_made = λ e. fit.not_made (ap not (items.is_ready_only x.part.stage ready).1);
                who_atomic = λ e. never e;
                who_begun = λ e. never e;
              });
          run_fits = λ r e. nowhere (sym (items.no_run reader passed passed_is_well j x item_now) ∙ e);
          begins = λ n e. subst (Begins passed j) (some_same part n e) begins;
        }

    worklet_begun_is_well : IsWell reader (begin_at passed j name spec.top (given_named x) None net)
    worklet_begun_is_well = turned_is_well passed j (Some part) begins_there (begun None) (λ r. r) substitutes passed_is_well.parents reader passed_is_well

  substituted_is_well : (name : List ℕ) → IsWell reader (substitute s j name x)
  substituted_is_well name =
      by_option (spec_called s name)
      (λ none. subst (λ o. IsWell reader (where_some o s in_spec)) (sym none) well)
      (λ spec called. subst (λ o. IsWell reader (where_some o s in_spec)) (sym called)
      (by_option (top_called s name)
      (λ none. subst (λ o. IsWell reader (where_some o s (in_net spec))) (sym none) well)
      (λ net top. subst (λ o. IsWell reader (where_some o s (in_net spec))) (sym top)
      (worklet_begun_is_well name spec net called (ap (option_and_then top_net) (sym called) ∙ top)))))
    where
      in_net : Spec → Net → State
      in_net spec net = begin_at passed j name spec.top (given_named x) None net

      in_spec : Spec → State
      in_spec spec = where_some (top_called s name) s (in_net spec)

first_is_due : (c : Checks) → is_first_due c Select ≡ true → has_check c Select ≡ true
first_is_due c e = (and_parts c.select (not c.pre) e).0

module _ (reader : Reader) (sound : ReadsSound reader) (s : State) (j : Ident) (worklet : List ℕ) (said : Said) (well : IsWell reader s) where
  pub substitute_keeps_well : Allowed s (events.Substitute j worklet) said → IsWell reader (after s (events.Substitute j worklet) said)
  unfolding allows after
  substitute_keeps_well allowed =
      let parts = and_parts (comes_next s j Select && nat_lt (length j) depth_end) _ allowed.0 in
      let next = and_parts (comes_next s j Select) (nat_lt (length j) depth_end) parts.0 in
      let due = first_is_due (due_at s j) (and_parts (is_first_due (due_at s j) Select) (not (busy s j)) next.0).0 in
      by_option (item_at s j)
      (λ none. subst (λ o. IsWell reader (where_some o s (substitute s j worklet))) (sym none) well)
      (λ x item. subst (λ o. IsWell reader (where_some o s (substitute s j worklet))) (sym item)
      (substituted_is_well reader sound s well j x item due (ltb-true (length j) depth_end next.1) worklet))
