-- A child net begins at an item: what is well stays well.
use Rattle.std.specs.Prelude.{◌≡◌, ◌≤◌, ◌&&◌, ℕ, ◌+◌, ◌==◌, Bool, true, not, List, length, replicate, Option, Some, None, is_some, option_map, option_and_then, slice_get, refl, if◌then◌else◌}
use Rattle.std.specs.Str.{bytes_eq}
use Rattle.std.proofs.Common.{sym, ◌∙◌, ap, subst, arith, length-set}
use Rattle.std.proofs.lemmas.List.{length-replicate}
use Rattle.std.proofs.lemmas.Bool.{and_from, and_parts, eq-eqb, or_left}
use Rattle.std.proofs.lemmas.List.Elements.{All-replicate, All-set}
use Rattle.std.proofs.lemmas.Slice.Eq.{bytes_eq-Decides}
use Rattle.yw_spec.specs.declared.spec.Net.{Net}
use Rattle.yw_spec.specs.declared.spec.Spec.{Spec}
use Rattle.yw_invariant.proofs.Places.{deep_is_no_case, shorter}
use Rattle.yw_invariant.proofs.ReadyItems as items
use Rattle.yw_invariant.proofs.Turning.{Begins, Turns, turned_is_well, same_option}
use Rattle.yw_invariant.proofs.Values.{GivesSmall, first_values_fit, given_small}
use Rattle.yw_sound.specs.Sound.{IsSound, ReadsSound, begins_right}
use Rattle.yw_state.proofs.Alike.{item_in, net_by, net_in}
use Rattle.yw_state.proofs.Clear.{none_due}
use Rattle.yw_state.proofs.MapLemmas.{by_option, never, nowhere, some_same}
use Rattle.yw_state.proofs.NetLevels.{level_nested}
use Rattle.yw_state.proofs.Updated.{renewed}
use Rattle.yw_state.specs.After.{begin_at, begun, new_net, stands, start_sub, where_some, with_item}
use Rattle.yw_state.specs.Allowed.{Allowed, allows, most_tokens}
use Rattle.yw_state.specs.ByName.{Valuation, first_values, given_named}
use Rattle.yw_state.specs.Events.{after}
use Rattle.yw_state.specs.Identity.{Ident}
use Rattle.yw_base.specs.Identity.{parent}
use Rattle.yw_state.specs.Map.{get}
use Rattle.yw_state.specs.Nets.{child_net}
use Rattle.yw_state.specs.Options.{is_some_and}
use Rattle.yw_state.specs.State.{State, Site, NetPart, ItemPart, ItemAt, item_at, item_part, net_part, run_part, spec_called}
use Rattle.yw_state.specs.Texts.{Reader, Said}
use Rattle.yw_state.specs.Well.{IsWell, ItemFits, NetFits, is_child_of, is_composite, is_top, net_level, wants_net}
use Rattle.yw_state.specs.Words.{busy, clear, is_ready}
use Rattle.yw_state.specs.declared.event.Event.TheVariants as events
use Rattle.yw_state.specs.declared.loaded.Loaded.{Loaded}
use Rattle.yw_state.specs.declared.tree.TreeKind.TheVariants.{Select}

no_item : (part : Option ItemPart) → item_in part None ≡ None
no_item None = refl
no_item (Some x) = refl

-- a new net fits that begins with values that fit
pub new_net_fits : (name : List ℕ) (k : ℕ) (net : Net) (source : Valuation) → GivesSmall source → begins_right net ≡ true → NetFits (record { part = new_net name k net (first_values source net); net = net })
new_net_fits name k net source small right =
    record {
      vals = first_values_fit source small net.vars right;
      places = length-set (replicate (length net.places) 0) net.input 1 ∙ length-replicate (length net.places) 0;
      counts = All-set (λ n. n ≤ most_tokens) (replicate (length net.places) 0) net.input 1 (omega arith) (All-replicate (λ n. n ≤ most_tokens) (length net.places) 0 (omega arith));
    }

module _ (reader : Reader) (sound : ReadsSound reader) (s : State) (well : IsWell reader s) where
  -- a loaded specification is sound
  pub loaded_sound : (name : List ℕ) (spec : Spec) → spec_called s name ≡ Some spec → IsSound spec
  loaded_sound name spec called =
      by_option (get s.specs name)
      (λ none. nowhere (ap (option_map (λ (l : Loaded). l.spec)) (sym none) ∙ called))
      (λ l some. subst IsSound (some_same l.spec spec (ap (option_map (λ (x : Loaded). x.spec)) (sym some) ∙ called)) (sound l.text l.spec (well.content.spec_text name l some)))

  module _ (j : Ident) (x : ItemAt) (item : item_at s j ≡ Some x) (calm : (clear s j && not (busy s j)) ≡ true) (ready : is_ready x.part.stage ≡ true) (composite : is_composite x ≡ true) where
    net_above : (n : NetPart) × (net_part s (parent j) ≡ Some n)
    net_above =
        by_option (net_part s (parent j))
        (λ none. nowhere (sym (no_item (item_part s j)) ∙ ap (λ o. item_in (item_part s j) (option_and_then (net_by s) o)) (sym none) ∙ item))
        (λ n some. (n, some))

    -- the net of which the item is stands one level above
    not_too_deep : length j ≤ 30 + net_level s j
    not_too_deep =
        let (n, net) = net_above in
        let deep = items.deep reader s well j x item in
        let longer = shorter j (omega (arith, deep)) in
        let up = well.depth (parent j) n net in
        subst (λ l. length j ≤ 30 + l) (sym (level_nested s j (omega (arith, deep)) (ap (λ o. is_some_and o is_composite) item ∙ composite))) (omega (arith, up, longer))

    module _ (spec : Spec) (k : ℕ) (net : Net) (called : spec_called s x.of_task.within.part.spec ≡ Some spec) (child : child_net x.of_task.task ≡ Some k) (at : slice_get spec.nets k ≡ Some net) where
      abbrev child_part : NetPart
      child_part = new_net x.of_task.within.part.spec k net (first_values (given_named x) net)

      abbrev with_child : Site → Site
      with_child y = stands child_part (with_item (begun x.part.who) y)

      begins : Begins s j child_part
      begins =
          record {
            at = record { part = child_part; net = net };
            is = ap (net_in child_part) called ∙ ap (λ o. option_map (λ other. record { part = child_part; net = other }) o) at;
            fits = new_net_fits x.of_task.within.part.spec k net (given_named x) (given_small x (well.content.item j x item)) (loaded_sound x.of_task.within.part.spec spec called k net at).begins;
            of_item = items.of_this reader s well j x item (λ y. (if is_composite y then is_child_of y child_part else is_top s child_part) ≡ true)
                (ap (λ b. if b then is_child_of x child_part else is_top s child_part) composite
                ∙ ap (λ o. is_some_and o (λ m. k == m) && bytes_eq x.of_task.within.part.spec x.of_task.within.part.spec) child
                ∙ and_from _ _ (eq-eqb k k refl) ((bytes_eq-Decides x.of_task.within.part.spec x.of_task.within.part.spec).1 refl));
            of_run = λ r e. nowhere (sym (items.no_run reader s well j x item) ∙ e);
            deep = not_too_deep;
          }

      starts : Turns s j (Some child_part) with_child (begun x.part.who) (λ r. r)
      starts =
          record {
            apart = items.apart reader s well j x item ready;
            no_case = deep_is_no_case j (items.deep reader s well j x item);
            stays = or_left (is_some (item_part s j)) (is_some (run_part s j)) (ap is_some (items.part_there reader s well j x item).1);
            to_net = λ y here. refl;
            to_item = λ y. refl;
            to_run = λ y. same_option y.run;
            task = λ y. refl;
            suspended = λ y here e. well.marks.suspended j (ap (λ o. is_some_and o (λ (z : Site). z.suspended)) here ∙ e);
            due = λ y here kind e. none_due s j y here calm kind e;
            select = λ y here e. none_due s j y here calm Select e;
            wants = items.of_this reader s well j x item (λ y. wants_net (renewed (begun x.part.who) y) ≡ true) (or_left (is_composite x) _ composite);
            waits = λ r e. nowhere (sym (items.no_run reader s well j x item) ∙ e);
            item_fits = items.of_this reader s well j x item (λ y. ItemFits (renewed (begun x.part.who) y)) (
                let fit = well.content.item j x item in
                record {
                  given = fit.given;
                  made = λ e. never e;
                  not_made = λ e. fit.not_made (ap not (items.is_ready_only x.part.stage ready).1);
                  who_atomic = fit.who_atomic;
                  who_begun = λ e. refl;
                });
            run_fits = λ r e. nowhere (sym (items.no_run reader s well j x item) ∙ e);
            begins = λ n e. subst (Begins s j) (some_same child_part n e) begins;
          }

      child_begun_is_well : IsWell reader (begin_at s j x.of_task.within.part.spec k (given_named x) x.part.who net)
      child_begun_is_well = turned_is_well s j (Some child_part) with_child (begun x.part.who) (λ r. r) starts well.parents reader well

    start_sub_is_well : IsWell reader (start_sub s j x)
    start_sub_is_well =
        by_option (spec_called s x.of_task.within.part.spec)
        (λ none. subst (λ o. IsWell reader (where_some (option_and_then numbered o) s begin)) (sym none) well)
        (λ spec called.
        subst (λ o. IsWell reader (where_some (option_and_then numbered o) s begin)) (sym called)
        (by_option (child_net x.of_task.task)
        (λ none. subst (λ o. IsWell reader (where_some (option_and_then (in_spec spec) o) s begin)) (sym none) well)
        (λ k child.
        subst (λ o. IsWell reader (where_some (option_and_then (in_spec spec) o) s begin)) (sym child)
        (by_option (slice_get spec.nets k)
        (λ none. subst (λ o. IsWell reader (where_some (option_map (λ net. (k, net)) o) s begin)) (sym none) well)
        (λ net at.
        subst (λ o. IsWell reader (where_some (option_map (λ net. (k, net)) o) s begin)) (sym at)
        (child_begun_is_well spec k net called child at))))))
      where
        begin : ℕ × Net → State
        begin e = begin_at s j x.of_task.within.part.spec e.0 (given_named x) x.part.who e.1

        in_spec : Spec → ℕ → Option (ℕ × Net)
        in_spec spec k = option_map (λ net. (k, net)) (slice_get spec.nets k)

        numbered : Spec → Option (ℕ × Net)
        numbered spec = option_and_then (in_spec spec) (child_net x.of_task.task)

module _ (reader : Reader) (sound : ReadsSound reader) (s : State) (j : Ident) (said : Said) (well : IsWell reader s) where
  pub start_sub_keeps_well : Allowed s (events.StartSub j) said → IsWell reader (after s (events.StartSub j) said)
  unfolding allows after
  start_sub_keeps_well allowed =
      let parts = and_parts (clear s j && not (busy s j)) (is_some_and (item_at s j) ready_composite) allowed.0 in
      by_option (item_at s j)
      (λ none. subst (λ o. IsWell reader (where_some o s (start_sub s j))) (sym none) well)
      (λ x item.
      let here = and_parts (is_ready x.part.stage) (is_composite x) (ap (λ o. is_some_and o ready_composite) (sym item) ∙ parts.1) in
      subst (λ o. IsWell reader (where_some o s (start_sub s j))) (sym item) (start_sub_is_well reader sound s well j x item parts.0 here.0 here.1))
    where
      ready_composite : ItemAt → Bool
      ready_composite x = is_ready x.part.stage && is_composite x
