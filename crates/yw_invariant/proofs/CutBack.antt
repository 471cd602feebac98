-- An item begins anew, or counts as completed, while a run at it goes on: what is well stays well.
use Rattle.std.specs.Prelude.{◌≡◌, ◌⊎◌, ◌||◌, Bool, true, false, not, [], Some, None, is_some, option_map, option_and_then, refl, if◌then◌else◌}
use Rattle.std.proofs.Common.{sym, ◌∙◌, ap, subst, inl, inr, arith}
use Rattle.std.proofs.lemmas.Bool.{or_left}
use Rattle.std.proofs.lemmas.Slice.Eq.{bytes_eq-Decides}
use Rattle.yw_invariant.proofs.Changes.{numbers_left, updated_twice}
use Rattle.yw_invariant.proofs.Places.{deep_is_no_case, not_under_itself, stays_above, strictly_under_parent}
use Rattle.yw_invariant.proofs.ReadyItems as items
use Rattle.yw_invariant.proofs.RunsGoOn as runs
use Rattle.yw_invariant.proofs.Turning.{Turns, item_here, part_here, turned_is_well, same_option}
use Rattle.yw_invariant.proofs.Values.{given_fits}
use Rattle.yw_state.proofs.Alike.{item_in, net_by, nothing_due}
use Rattle.yw_state.proofs.MapLemmas.{by_name, by_option, get-retain_kept, never, nowhere, retain_stands}
use Rattle.yw_state.proofs.MarksWell.{item_due_is_well}
use Rattle.yw_state.proofs.RetainWell.{retained_is_well}
use Rattle.yw_state.proofs.Tests.{or_cases}
use Rattle.yw_state.proofs.Updated.{renewed}
use Rattle.yw_state.specs.After.{change, completed, make_due, make_select_due, with_item, with_sites}
use Rattle.yw_state.specs.ByName.{made_of_given}
use Rattle.yw_state.specs.Identity.{Ident, same, strictly_under}
use Rattle.yw_base.specs.Identity.{parent}
use Rattle.yw_state.specs.Judged.{task_place}
use Rattle.yw_state.specs.Map.{get, retain, update}
use Rattle.yw_state.specs.Nets.{is_atomic}
use Rattle.yw_state.specs.Options.{is_some_and}
use Rattle.yw_state.specs.State.{State, Site, Sites, ItemAt, ItemPart, RunPart, bare_but, item_at, item_part, net_at, no_checks, run_part}
use Rattle.yw_state.specs.Texts.{Reader}
use Rattle.yw_state.specs.Well.{IsWell, ItemFits, wants_net}
use Rattle.yw_state.specs.Words.{is_ready}
use Rattle.yw_state.specs.declared.part.Stage.TheVariants.{Ready}
use Rattle.yw_state.specs.declared.tree.TreeKind.TheVariants.{Select}

module _ (reader : Reader) (s : State) (well : IsWell reader s) (r : Ident) (y : RunPart) (run : run_part s r ≡ Some y) (idle : y.waiting ≡ false) where
  abbrev j : Ident
  j = parent r

  abbrev kept : Ident → Bool
  kept k = not (strictly_under k j) || same k r

  j_kept : kept j ≡ true
  j_kept = or_left (not (strictly_under j j)) (same j r) (ap not (not_under_itself j))

  kept_above : (k : Ident) → kept k ≡ true → kept (parent k) ≡ true
  kept_above k e = either (or_cases (not (strictly_under k j)) (same k r) e)
    where
      either : (not (strictly_under k j) ≡ true) ⊎ (same k r ≡ true) → kept (parent k) ≡ true
      either (inl aside) = or_left (not (strictly_under (parent k) j)) (same (parent k) r) (stays_above j k aside)
      either (inr is) = ap (λ i. kept (parent i)) ((bytes_eq-Decides k r).0 is) ∙ j_kept

  abbrev left : State
  left = with_sites s (retain s.sites kept)

  left_is_well : IsWell reader left
  left_is_well = retained_is_well s kept s.ended kept_above reader (numbers_left reader s well kept) well

  same_here : get left.sites j ≡ get s.sites j
  same_here = get-retain_kept by_name s.sites kept j j_kept

  part_same : item_part left j ≡ item_part s j
  part_same = ap (option_and_then (λ (x : Site). x.item)) same_here

  item_same : item_at left j ≡ item_at s j
  item_same =
      ap (λ o. item_in o (net_at left (parent j))) part_same
      ∙ ap (λ o. item_in (item_part s j) (option_and_then (net_by s) (option_and_then (λ (x : Site). x.net) o))) (get-retain_kept by_name s.sites kept (parent j) (kept_above j j_kept))

  -- of what is left, only the run stands under the item
  apart : (k : Ident) (x : ItemPart) → item_part left k ≡ Some x → ¬ (parent k ≡ j)
  apart k x e above =
      by_option (get left.sites k)
      (λ none. nowhere (ap (option_and_then (λ (z : Site). z.item)) (sym none) ∙ e))
      (λ z some.
      let stood = retain_stands by_name s.sites kept k z some in
      let deep = left_is_well.parents.item_depth k x e in
      let lies = ap (strictly_under k) (sym above) ∙ strictly_under_parent k (omega (arith, deep)) in
      is_the_run (or_cases (not (strictly_under k j)) (same k r) stood.1) lies z stood.0 some)
    where
      is_the_run : (not (strictly_under k j) ≡ true) ⊎ (same k r ≡ true) → strictly_under k j ≡ true → (z : Site) → get s.sites k ≡ Some z → get left.sites k ≡ Some z → ⊥
      is_the_run (inl aside) lies z stood some = never (sym (ap not lies) ∙ aside)
      is_the_run (inr is) lies z stood some =
          let here : k ≡ r = (bytes_eq-Decides k r).0 is in
          nowhere
          (sym (runs.no_item reader s well r y run idle)
          ∙ ap (item_part s) (sym here)
          ∙ ap (option_and_then (λ (w : Site). w.item)) (stood ∙ sym some)
          ∙ e)

  module _ (x : ItemAt) (item : item_at s j ≡ Some x) (g : ItemPart → ItemPart) (task : (z : ItemPart) → (g z).task ≡ z.task) (wants : wants_net (renewed g x) ≡ false) (fits : ItemFits (renewed g x)) where
    now : item_at left j ≡ Some x
    now = item_same ∙ item

    there : (z : ItemPart) × (item_part left j ≡ Some z)
    there = items.part_there reader left left_is_well j x now

    abbrev cut : Site → Site
    cut z = record (with_item g (record z { net = None })) { due = no_checks }

    cuts : Turns left j None cut g (λ z. z)
    cuts =
        record {
          apart = apart;
          no_case = deep_is_no_case j (items.deep reader s well j x item);
          stays = or_left (is_some (item_part left j)) (is_some (run_part left j)) (ap is_some there.1);
          to_net = λ z here. refl;
          to_item = λ z. refl;
          to_run = λ z. same_option z.run;
          task = task;
          suspended = λ z here e. left_is_well.marks.suspended j (ap (λ o. is_some_and o (λ (w : Site). w.suspended)) here ∙ e);
          due = λ z here kind e. never (sym (nothing_due kind) ∙ e);
          select = λ z here e. never e;
          wants = items.of_this reader left left_is_well j x now (λ z. wants_net (renewed g z) ≡ false) wants;
          waits = λ z e. nowhere (sym (items.no_run reader left left_is_well j x now) ∙ e);
          item_fits = items.of_this reader left left_is_well j x now (λ z. ItemFits (renewed g z)) fits;
          run_fits = λ z e. nowhere (sym (items.no_run reader left left_is_well j x now) ∙ e);
          begins = λ n e. nowhere e;
        }

    abbrev cut_state : State
    cut_state = change left j cut

    cut_is_well : IsWell reader cut_state
    cut_is_well = turned_is_well left j None cut g (λ z. z) cuts left_is_well.parents reader left_is_well

    cut_twice : update (bare_but s.sites j r) j (λ z. record (with_item g z) { due = no_checks }) ≡ update left.sites j cut
    cut_twice = updated_twice left.sites j (λ z. record z { net = None }) (λ z. record (with_item g z) { due = no_checks })

    pub cut_back_is_well : IsWell reader (change (with_sites s (bare_but s.sites j r)) j (λ z. record (with_item g z) { due = no_checks }))
    cut_back_is_well = subst (λ (m : Sites). IsWell reader (with_sites s m)) (sym cut_twice) cut_is_well

    -- a worklet may be chosen for it where it is ready
    pub select_due_is_well : ((z : ItemPart) → is_ready (g z).stage ≡ true)
        → IsWell reader (make_select_due (change (with_sites s (bare_but s.sites j r)) j (λ z. record (with_item g z) { due = no_checks })) j x.of_task)
    select_due_is_well ready =
        subst (λ (m : Sites). IsWell reader (make_select_due (with_sites s m) j x.of_task)) (sym cut_twice) (either (is_atomic x.of_task.task))
      where
        ready_now : is_some_and (item_part cut_state j) (λ z. is_ready z.stage) ≡ true
        ready_now = ap (λ o. is_some_and o (λ (z : ItemPart). is_ready z.stage)) (part_here left j None cut g (λ z. z) cuts left_is_well.parents ∙ ap (option_map g) there.1) ∙ ready there.0

        item_now : item_at cut_state j ≡ Some (renewed g x)
        item_now = item_here left j None cut g (λ z. z) cuts left_is_well.parents ∙ ap (option_map (renewed g)) now

        either : (b : Bool) → IsWell reader (if b then make_due cut_state j (task_place x.of_task Select) else cut_state)
        either true = item_due_is_well reader cut_state j cut_is_well (renewed g x) item_now Select (λ e. ready_now)
        either false = cut_is_well

  -- ---- the two primitives

  abbrev restarts : ItemPart → ItemPart
  restarts z = record z { stage = Ready; who = None; made = [] }

  pub restarted_is_well : (x : ItemAt) → item_at s j ≡ Some x
      → IsWell reader (make_select_due (change (with_sites s (bare_but s.sites j r)) j (λ z. record (with_item restarts z) { due = no_checks })) j x.of_task)
  restarted_is_well x item =
      select_due_is_well x item restarts (λ z. refl) refl
      (record { given = (well.content.item j x item).given; made = λ e. never e; not_made = λ e. refl; who_atomic = λ e. never e; who_begun = λ e. never e })
      (λ z. refl)

  pub completed_is_well : (x : ItemAt) → item_at s j ≡ Some x
      → IsWell reader (change (with_sites s (bare_but s.sites j r)) j (λ z. record (with_item (completed (made_of_given x)) z) { due = no_checks }))
  completed_is_well x item =
      let fit = well.content.item j x item in
      cut_back_is_well x item (completed (made_of_given x)) (λ z. refl) refl
      (record { given = fit.given; made = λ e. given_fits x fit; not_made = λ e. never e; who_atomic = fit.who_atomic; who_begun = λ e. refl })
