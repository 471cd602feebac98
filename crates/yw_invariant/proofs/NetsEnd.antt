-- The net at an item or a run is at its end, and goes with all under it: what is well stays well.
use Rattle.std.specs.Prelude.{◌≡◌, ◌&&◌, Bool, true, false, not, cond, length, Option, Some, None, is_some, option_map, option_and_then, refl, if◌then◌else◌}
use Rattle.std.specs.Ordering.{eq_by_cmp}
use Rattle.std.proofs.Common.{sym, ◌∙◌, ap, subst, arith}
use Rattle.std.proofs.lemmas.Bool.{and_parts, or_left, or_right}
use Rattle.yw_base.specs.Identity.{under, case_number, parent}
use Rattle.yw_invariant.proofs.ReadyItems as items
use Rattle.yw_invariant.proofs.RunsGoOn.{some_left}
use Rattle.yw_invariant.proofs.Turning.{Turns, item_here, turned_is_well, same_option}
use Rattle.yw_invariant.proofs.Changes.{dropped_is_well, numbers_left, updated_twice}
use Rattle.yw_invariant.proofs.Places.{deep_is_no_case, not_under_itself, stays_above, strictly_under_other, strictly_under_parent, under_itself}
use Rattle.yw_invariant.proofs.Values.{worklet_fits}
use Rattle.yw_state.proofs.Alike.{due_test, item_in, net_by}
use Rattle.yw_state.proofs.Clear.{none_due}
use Rattle.yw_state.proofs.MapLemmas.{by_name, by_option, by_test, get-remove_other, get-remove_same, get-retain, get-retain_gone, get-retain_kept, get-update_other, get-update_same, never, nowhere, same_map, some_same, tied, tied_self}
use Rattle.yw_state.proofs.MarksWell.{item_due_is_well}
use Rattle.yw_state.proofs.RetainWell.{retained_is_well}
use Rattle.yw_state.proofs.Updated.{renewed}
use Rattle.yw_state.specs.After.{change, complete, completed, end_net, make_due, where_some, with_item, with_run, with_sites}
use Rattle.yw_state.specs.Allowed.{Allowed, allows}
use Rattle.yw_state.specs.ByName.{made_by_worklet}
use Rattle.yw_state.specs.Events.{after}
use Rattle.yw_state.specs.Exlets.{end_compensation, end_if_over, going_on, is_over}
use Rattle.yw_state.specs.Identity.{Ident, strictly_under}
use Rattle.yw_state.specs.Judged.{task_place}
use Rattle.yw_state.specs.Map.{get, lexical, remove, retain}
use Rattle.yw_state.specs.Options.{is_some_and}
use Rattle.yw_state.specs.Passing.{row_fits}
use Rattle.yw_state.specs.State.{State, Site, Sites, ItemPart, ItemAt, RunPart, bare, drop, due_at, item_at, item_part, net_at, run_part}
use Rattle.yw_state.specs.Texts.{Reader, Said}
use Rattle.yw_state.specs.Values.{Row}
use Rattle.yw_state.specs.Well.{IsWell, ItemFits, Stands, has_work}
use Rattle.yw_state.specs.Joins.{at_output}
use Rattle.yw_state.specs.Nets.{is_atomic}
use Rattle.yw_state.specs.Words.{busy, clear, has_check, is_executing, is_ready, urgent}
use Rattle.yw_state.specs.declared.event.Event.TheVariants as events
use Rattle.yw_state.specs.declared.tree.TreeKind.{TreeKind}
use Rattle.yw_state.specs.declared.tree.TreeKind.TheVariants.{Post, Select}

is_not_select : ¬ (Post ≡ Select)
is_not_select e = cc

-- ---- what stands strictly under j goes

module _ (reader : Reader) (s : State) (j : Ident) (well : IsWell reader s) where
  abbrev kept : Ident → Bool
  kept k = not (strictly_under k j)

  abbrev cleared : State
  cleared = with_sites s (retain s.sites kept)

  cleared_is_well : IsWell reader cleared
  cleared_is_well = retained_is_well s kept s.ended (stays_above j) reader (numbers_left reader s well kept) well

  alone : (k : Ident) → strictly_under k j ≡ true → get cleared.sites k ≡ None
  alone k e = get-retain_gone by_name s.sites kept k (ap not e)

  apart : (k : Ident) (x : ItemPart) → item_part cleared k ≡ Some x → ¬ (parent k ≡ j)
  apart k x e above =
      let deep = cleared_is_well.parents.item_depth k x e in
      nowhere (ap (option_and_then (λ (y : Site). y.item)) (sym (alone k (ap (strictly_under k) (sym above) ∙ strictly_under_parent k (omega (arith, deep))))) ∙ e)

  same_here : get cleared.sites j ≡ get s.sites j
  same_here = get-retain_kept by_name s.sites kept j (ap not (not_under_itself j))

  same_above : get cleared.sites (parent j) ≡ get s.sites (parent j)
  same_above = get-retain_kept by_name s.sites kept (parent j) (stays_above j j (ap not (not_under_itself j)))

  part_same : item_part cleared j ≡ item_part s j
  part_same = ap (option_and_then (λ (x : Site). x.item)) same_here

  item_same : item_at cleared j ≡ item_at s j
  item_same =
      ap (λ o. item_in o (net_at cleared (parent j))) part_same
      ∙ ap (λ o. item_in (item_part s j) (option_and_then (net_by s) (option_and_then (λ (x : Site). x.net) o))) same_above

  -- ---- an item

  abbrev bared : Site → Site
  bared x = record x { net = None }

  module _ (x : ItemAt) (item : item_at s j ≡ Some x) (calm : (clear s j && not (busy s j)) ≡ true) (out : Row) (fits : row_fits x.of_task.task.outs out ≡ true) where
    abbrev made : Site → Site
    made y = with_item (completed out) (bared y)

    now : item_at cleared j ≡ Some x
    now = item_same ∙ item

    there : is_some (item_part cleared j) ≡ true
    there = ap is_some (items.part_there reader cleared cleared_is_well j x now).1

    stood : (y : Site) → Stands cleared j y → Stands s j y
    stood y e = sym same_here ∙ e

    completes : Turns cleared j None made (completed out) (λ r. r)
    completes =
        record {
          apart = apart;
          no_case = deep_is_no_case j (items.deep reader s well j x item);
          stays = or_left (is_some (item_part cleared j)) (is_some (run_part cleared j)) there;
          to_net = λ y here. refl;
          to_item = λ y. refl;
          to_run = λ y. same_option y.run;
          task = λ y. refl;
          suspended = λ y stands e. cleared_is_well.marks.suspended j (ap (λ o. is_some_and o (λ (z : Site). z.suspended)) stands ∙ e);
          due = λ y stands kind e. none_due s j y (stood y stands) calm kind e;
          select = λ y stands e. none_due s j y (stood y stands) calm Select e;
          wants = λ y e. refl;
          waits = λ r e. nowhere (sym (items.no_run reader cleared cleared_is_well j x now) ∙ e);
          item_fits = items.of_this reader cleared cleared_is_well j x now (λ y. ItemFits (renewed (completed out) y)) (
              let fit = well.content.item j x item in
              record {
                given = fit.given;
                made = λ e. fits;
                not_made = λ e. never e;
                who_atomic = fit.who_atomic;
                who_begun = λ e. refl;
              });
          run_fits = λ r e. nowhere (sym (items.no_run reader cleared cleared_is_well j x now) ∙ e);
          begins = λ n e. nowhere e;
        }

    completed_now : IsWell reader (change cleared j made)
    completed_now = turned_is_well cleared j None made (completed out) (λ r. r) completes cleared_is_well.parents reader cleared_is_well

    item_now : item_at (change cleared j made) j ≡ Some (renewed (completed out) x)
    item_now = item_here cleared j None made (completed out) (λ r. r) completes cleared_is_well.parents ∙ ap (option_map (renewed (completed out))) now

    pub ended_is_well : IsWell reader (complete (with_sites s (bare s.sites j)) j out x)
    ended_is_well =
        subst (λ (m : Sites). IsWell reader (make_due (with_sites s m) j (task_place x.of_task Post))) (sym (updated_twice cleared.sites j bared (with_item (completed out))))
        (item_due_is_well reader (change cleared j made) j completed_now (renewed (completed out) x) item_now Post (λ e. absurd (is_not_select e)))

-- ---- a worklet

module _ (reader : Reader) (s : State) (j : Ident) (said : Said) (well : IsWell reader s) where
  pub complete_worklet_keeps_well : Allowed s (events.CompleteWorklet j) said → IsWell reader (after s (events.CompleteWorklet j) said)
  unfolding allows after
  complete_worklet_keeps_well allowed =
      let rest = and_parts (clear s j && not (busy s j) && is_some_and (item_at s j) worked_at) (at_output s j) allowed.0 in
      let calm = and_parts (clear s j && not (busy s j)) (is_some_and (item_at s j) worked_at) rest.0 in
      by_option (item_at s j)
      (λ none. subst (λ o. IsWell reader (where_some o s (end_net s j made_by_worklet))) (sym none) well)
      (λ x item.
      subst (λ o. IsWell reader (where_some o s (end_net s j made_by_worklet))) (sym item)
      (by_option (net_at s j)
      (λ none. subst (λ o. IsWell reader (where_some o s (λ n. complete (with_sites s (bare s.sites j)) j (made_by_worklet n x) x))) (sym none) well)
      (λ n net.
      subst (λ o. IsWell reader (where_some o s (λ n. complete (with_sites s (bare s.sites j)) j (made_by_worklet n x) x))) (sym net)
      (ended_is_well reader s j well x item calm.0 (made_by_worklet n x) (worklet_fits n x (well.content.net j n net) (well.content.item j x item))))))
    where
      worked_at : ItemAt → Bool
      worked_at x = is_executing x.part.stage && is_atomic x.of_task.task

-- ---- a compensation

abbrev resumed : Site → Site
resumed x = with_run going_on (record x { net = None })

module _ (reader : Reader) (s : State) (r : Ident) (well : IsWell reader s) (y : RunPart) (run : run_part s r ≡ Some y) where
  abbrev clear_there : State
  clear_there = cleared reader s r well

  abbrev gone_on : State
  gone_on = change clear_there r resumed

  run_now : run_part gone_on r ≡ Some (going_on y)
  run_now =
      ap (option_and_then (λ (x : Site). x.run)) (get-update_same by_name clear_there.sites r resumed ∙ ap (option_map resumed) (same_here reader s r well))
      ∙ mapped (get s.sites r)
      ∙ ap (option_map going_on) run
    where
      mapped : (o : Option Site) → option_and_then (λ (x : Site). x.run) (option_map resumed o) ≡ option_map going_on (option_and_then (λ (x : Site). x.run) o)
      mapped None = refl
      mapped (Some x) = refl

  run_same : run_part clear_there r ≡ run_part s r
  run_same = ap (option_and_then (λ (x : Site). x.run)) (same_here reader s r well)

  no_item : item_part clear_there r ≡ None
  no_item =
      part_same reader s r well
      ∙ by_option (item_part s r)
      (λ none. none)
      (λ x some. never (sym (well.parents.not_both r (ap is_some some)) ∙ ap is_some run))

  no_item_at : (x : ItemAt) → item_at clear_there r ≡ Some x → ⊥
  no_item_at x e = nowhere (ap (λ o. item_in o (net_at clear_there (parent r))) (sym no_item) ∙ e)

  goes : is_over (going_on y) ≡ false → Turns clear_there r None resumed (λ x. x) going_on
  goes more =
      let here = cleared_is_well reader s r well in
      record {
        apart = apart reader s r well;
        no_case = deep_is_no_case r (well.parents.run_depth r y run);
        stays = or_right (is_some (item_part clear_there r)) (is_some (run_part clear_there r)) (ap is_some (run_same ∙ run));
        to_net = λ x here. refl;
        to_item = λ x. same_option x.item;
        to_run = λ x. refl;
        task = λ x. refl;
        suspended = λ x stands e. here.marks.suspended r (ap (λ o. is_some_and o (λ (z : Site). z.suspended)) stands ∙ e);
        due = λ x stands kind e. (here.marks.due r kind (is_due x stands kind e), here.marks.due_has_rule r kind (is_due x stands kind e));
        select = λ x stands e. never (sym (ap (λ o. is_some_and o (λ (z : ItemPart). is_ready z.stage)) no_item) ∙ here.marks.select r (is_due x stands Select e));
        wants = λ x e. absurd (no_item_at x e);
        waits = λ x e. refl;
        item_fits = λ x e. absurd (no_item_at x e);
        run_fits = λ x e.
            record {
              works = subst (λ (z : RunPart). has_work (going_on z) ≡ true) (some_same y x (sym run ∙ sym run_same ∙ e)) (some_left (length y.rest) more);
              most = here.content.run_length r x e;
              fit = here.content.run_fit r x e;
            };
        begins = λ n e. nowhere e;
      }
    where
      is_due : (x : Site) → Stands clear_there r x → (kind : TreeKind) → has_check x.due kind ≡ true → has_check (due_at clear_there r) kind ≡ true
      is_due x stands kind e = due_test kind (get clear_there.sites r) ∙ ap (λ o. is_some_and o (λ (z : Site). has_check z.due kind)) stands ∙ e

  -- a run that is over goes, and so all under it has gone
  all_gone : remove gone_on.sites r ≡ drop s.sites r
  all_gone = same_map by_name _ _ (λ q.
      by_test (eq_by_cmp lexical q r)
      (λ e.
      let here = tied by_name q r e in
      ap (get (remove gone_on.sites r)) here
      ∙ get-remove_same by_name gone_on.sites r
      ∙ sym (get-retain_gone by_name s.sites (λ k. not (under k r)) r (ap not (under_itself r)))
      ∙ ap (get (drop s.sites r)) (sym here))
      (λ e.
      let other : ¬ (q ≡ r) = λ same. never (sym e ∙ ap (λ k. eq_by_cmp lexical k r) same ∙ tied_self by_name r) in
      get-remove_other by_name gone_on.sites r q other
      ∙ get-update_other by_name clear_there.sites r resumed q other
      ∙ get-retain by_name s.sites (λ k. not (strictly_under k r)) q
      ∙ ap (λ b. cond (not b) (get s.sites q) None) (strictly_under_other q r other)
      ∙ sym (get-retain by_name s.sites (λ k. not (under k r)) q)))

  over_or_not : (b : Bool) → is_over (going_on y) ≡ b → IsWell reader (if b then with_sites s (remove gone_on.sites r) else gone_on)
  over_or_not true e = subst (λ (m : Sites). IsWell reader (with_sites s m)) (sym all_gone) (dropped_is_well reader s well r)
  over_or_not false e = turned_is_well clear_there r None resumed (λ x. x) going_on (goes e) (cleared_is_well reader s r well).parents reader (cleared_is_well reader s r well)

  compensation_ended_is_well : IsWell reader (end_compensation s r)
  compensation_ended_is_well =
      subst (λ (m : Sites). IsWell reader (end_if_over (with_sites s m) r)) (sym (updated_twice clear_there.sites r (λ x. record x { net = None }) (with_run going_on)))
      (subst (λ (o : Option RunPart). IsWell reader (if is_some_and o is_over then with_sites s (remove gone_on.sites r) else gone_on)) (sym run_now) (over_or_not (is_over (going_on y)) refl))

module _ (reader : Reader) (s : State) (r : Ident) (said : Said) (well : IsWell reader s) where
  pub compensated_keeps_well : Allowed s (events.Compensated r) said → IsWell reader (after s (events.Compensated r) said)
  unfolding allows after
  compensated_keeps_well allowed =
      let rest = and_parts (is_some_and (run_part s r) (λ (x : RunPart). x.waiting) && at_output s r) (not (urgent s (case_number r))) allowed.0 in
      let waits = (and_parts (is_some_and (run_part s r) (λ (x : RunPart). x.waiting)) (at_output s r) rest.0).0 in
      by_option (run_part s r)
      (λ none. never (ap (λ o. is_some_and o (λ (x : RunPart). x.waiting)) (sym none) ∙ waits))
      (λ y run. compensation_ended_is_well reader s r well y run)
