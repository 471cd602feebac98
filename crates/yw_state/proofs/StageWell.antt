-- What is well stays well when an item is begun or completed.
use Rattle.std.specs.Prelude.{◌≡◌, ◌&&◌, ◌||◌, ℕ, Bool, true, false, not, List, Some, is_some, is_none, option_map, refl}
use Rattle.std.proofs.Common.{sym, ◌∙◌, ap, subst}
use Rattle.std.proofs.lemmas.Bool.{and_parts, false_from_ne_true, not-true}
use Rattle.yw_spec.specs.declared.task.Kind.{Kind}
use Rattle.yw_spec.specs.declared.task.Kind.TheVariants as kinds
use Rattle.yw_spec.specs.declared.task.Task.{Task}
use Rattle.yw_state.proofs.Clear.{none_due}
use Rattle.yw_state.proofs.ItemWell.{GoesOn, going_on_is_well, item_renewed}
use Rattle.yw_state.proofs.MapLemmas.{never}
use Rattle.yw_state.proofs.MarksWell.{item_due_is_well}
use Rattle.yw_state.proofs.Tests.{there_and}
use Rattle.yw_state.proofs.Updated.{renewed}
use Rattle.yw_state.specs.After.{begun, change, complete, completed, where_some, with_item}
use Rattle.yw_state.specs.Allowed.{Allowed, allows, may_complete}
use Rattle.yw_state.specs.Events.{after}
use Rattle.yw_state.specs.Identity.{Ident}
use Rattle.yw_base.specs.Identity.{parent}
use Rattle.yw_state.specs.Nets.{child_net, is_atomic}
use Rattle.yw_state.specs.Options.{is_some_and}
use Rattle.yw_state.specs.State.{State, Site, ItemAt, is_target, item_at, items_of, net_part}
use Rattle.yw_state.specs.Passing.{is_defined, made_rows_with, row_fits}
use Rattle.yw_state.specs.Values.{Row}
use Rattle.yw_state.specs.Texts.{Reader, Said}
use Rattle.yw_state.specs.Well.{IsWell, MarksStand, Stands, wants_net}
use Rattle.yw_state.specs.Words.{busy, clear, is_completed, is_executing, is_ready}
use Rattle.yw_state.specs.declared.event.Event.TheVariants as events
use Rattle.yw_state.specs.declared.part.Stage.{Stage}
use Rattle.yw_state.specs.declared.part.Stage.TheVariants.{Ready, Executing, Completed}
use Rattle.yw_state.specs.declared.tree.TreeKind.TheVariants.{Post, Select}

-- an atomic task has no child net
atomic_kind : (t : Task) (kind : Kind) → is_atomic (record t { kind = kind }) ≡ true → is_some (child_net (record t { kind = kind })) ≡ false
atomic_kind t kinds.Atomic e = refl
atomic_kind t kinds.Empty e = never e
atomic_kind t (kinds.Sub k) e = never e

ready_stage : (stage : Stage) → is_ready stage ≡ true → (is_executing stage ≡ false) × (is_completed stage ≡ false)
ready_stage Ready e = (refl, refl)
ready_stage Executing e = never e
ready_stage Completed e = never e

is_not_select : ¬ (Post ≡ Select)
is_not_select e = cc

module _ (s : State) (j : Ident) (marks : MarksStand s) where
  was_suspended : (x : Site) → Stands s j x → x.suspended ≡ true → is_target s j ≡ true
  was_suspended x stands e = marks.suspended j (ap (λ o. is_some_and o (λ (y : Site). y.suspended)) stands ∙ e)

-- a fact of the item that is there
of_item : (s : State) (j : Ident) (test : ItemAt → Bool) → is_some_and (item_at s j) test ≡ true → (x : ItemAt) → item_at s j ≡ Some x → test x ≡ true
of_item s j test e x some = ap (λ o. is_some_and o test) (sym some) ∙ e

module _ (reader : Reader) (s : State) (j : Ident) (well : IsWell reader s) (calm : (clear s j && not (busy s j)) ≡ true) where
  module _ (who : List ℕ) (begins : is_some_and (item_at s j) (λ x. is_ready x.part.stage && is_atomic x.of_task.task) ≡ true) where
    begins_here : (x : ItemAt) → item_at s j ≡ Some x → (is_ready x.part.stage ≡ true) × (is_atomic x.of_task.task ≡ true)
    begins_here x some = and_parts _ _ (of_item s j (λ y. is_ready y.part.stage && is_atomic y.of_task.task) begins x some)

    start_goes : GoesOn s j (with_item (begun (Some who))) (begun (Some who))
    start_goes =
        record {
          net = λ x. refl;
          run = λ x. refl;
          item = λ x. refl;
          task = λ x. refl;
          suspended = was_suspended s j well.marks;
          due = λ x stands kind e. none_due s j x stands calm kind e;
          select = λ x stands e. none_due s j x stands calm Select e;
          wants = λ x some.
              let here = begins_here x some in
              ap (λ b. b || is_atomic x.of_task.task && false) (atomic_kind x.of_task.task x.of_task.task.kind here.1)
              ∙ ap (λ b. b && false) here.1
              ∙ sym (ap (λ b. b && (is_some (child_net x.of_task.task) || is_atomic x.of_task.task && is_none x.part.who)) (ready_stage x.part.stage here.0).0);
          fits = λ x some.
              let fit = well.content.item j x some in
              let here = begins_here x some in
              record {
                given = fit.given;
                made = λ e. never e;
                not_made = λ e. fit.not_made (ap not (ready_stage x.part.stage here.0).1);
                who_atomic = λ e. here.1;
                who_begun = λ e. refl;
              };
        }

    begun_is_well : IsWell reader (change s j (with_item (begun (Some who))))
    begun_is_well = going_on_is_well s j (with_item (begun (Some who))) (begun (Some who)) start_goes reader well

  module _ (out : Row) (completes : is_some_and (item_at s j) (may_complete s j out) ≡ true) where
    -- it executes, no net stands there, and the values fit
    completes_here : (x : ItemAt) → item_at s j ≡ Some x → (is_none (net_part s j) ≡ true) × (row_fits x.of_task.task.outs out ≡ true)
    completes_here x some =
        let runs = is_executing x.part.stage && is_some x.part.who in
        let all = and_parts (runs && is_none (net_part s j) && row_fits x.of_task.task.outs out) (is_defined x.of_task.task (made_rows_with (items_of s (parent j) x.part.task) j out) x.of_task.within.part.vals) (of_item s j (may_complete s j out) completes x some) in
        let fits = and_parts (runs && is_none (net_part s j)) (row_fits x.of_task.task.outs out) all.0 in
        ((and_parts runs (is_none (net_part s j)) fits.0).1, fits.1)

    complete_goes : GoesOn s j (with_item (completed out)) (completed out)
    complete_goes =
        record {
          net = λ x. refl;
          run = λ x. refl;
          item = λ x. refl;
          task = λ x. refl;
          suspended = was_suspended s j well.marks;
          due = λ x stands kind e. none_due s j x stands calm kind e;
          select = λ x stands e. none_due s j x stands calm Select e;
          wants = λ x some.
              sym (false_from_ne_true (wants_net x) (λ wants. never (sym (not-true _ (completes_here x some).0) ∙ well.nets.item_has j x some wants)));
          fits = λ x some.
              let fit = well.content.item j x some in
              record {
                given = fit.given;
                made = λ e. (completes_here x some).1;
                not_made = λ e. never e;
                who_atomic = fit.who_atomic;
                who_begun = λ e. refl;
              };
        }

    completed_is_well : (x : ItemAt) → item_at s j ≡ Some x → IsWell reader (complete s j out x)
    completed_is_well x some =
        item_due_is_well reader (change s j (with_item (completed out))) j
        (going_on_is_well s j (with_item (completed out)) (completed out) complete_goes reader well) (renewed (completed out) x)
        (item_renewed s j (with_item (completed out)) (completed out) complete_goes ∙ ap (option_map (renewed (completed out))) some) Post (λ e. absurd (is_not_select e))

pub start_keeps_well : (reader : Reader) (s : State) (j : Ident) (who : List ℕ) (said : Said) → IsWell reader s → Allowed s (events.Start j who) said → IsWell reader (after s (events.Start j who) said)
unfolding allows after
start_keeps_well reader s j who said well allowed =
    let parts = and_parts (clear s j && not (busy s j)) (is_some_and (item_at s j) (λ x. is_ready x.part.stage && is_atomic x.of_task.task)) allowed.0 in
    begun_is_well reader s j well parts.0 who parts.1

pub complete_keeps_well : (reader : Reader) (s : State) (j : Ident) (out : Row) (said : Said) → IsWell reader s → Allowed s (events.Complete j out) said → IsWell reader (after s (events.Complete j out) said)
unfolding allows after
complete_keeps_well reader s j out said well allowed =
    let parts = and_parts (clear s j && not (busy s j)) (is_some_and (item_at s j) (may_complete s j out)) allowed.0 in
    let x = there_and (item_at s j) (may_complete s j out) parts.1 in
    subst (λ o. IsWell reader (where_some o s (complete s j out))) (sym x.1) (completed_is_well reader s j well parts.0 out parts.1 x.0 x.1)
