-- A run takes a primitive: what is well stays well.
use Rattle.std.specs.Prelude.{◌≡◌, ◌≤◌, ◌||◌, ℕ, Bool, true, false, not, cond, length, [], Option, Some, None, is_some, option_map, option_and_then, unwrap_or, refl, if◌then◌else◌}
use Rattle.std.proofs.Common.{sym, ◌∙◌, ap, subst, arith}
use Rattle.std.proofs.lemmas.Bool.{and_parts, not-true, or_left, or_right}
use Rattle.std.proofs.lemmas.Slice.Eq.{bytes_eq-Decides}
use Rattle.yw_base.specs.Identity.{under, case_number, parent}
use Rattle.yw_invariant.proofs.Ancestors as ancestors
use Rattle.yw_invariant.proofs.Changes.{dropped_is_well, retain_update, updates_swap}
use Rattle.yw_invariant.proofs.CompensationBegins.{compensated_is_well}
use Rattle.yw_invariant.proofs.CutBack.{completed_is_well, restarted_is_well}
use Rattle.yw_invariant.proofs.Places.{shorter, under_its_case, under_parent}
use Rattle.yw_invariant.proofs.RunsGoOn as runs
use Rattle.yw_sound.specs.Sound.{ReadsSound}
use Rattle.yw_state.proofs.Alike.{may_be_due}
use Rattle.yw_state.proofs.ChangeWell.{MayChange, change_is_well}
use Rattle.yw_state.proofs.EndWell as ending
use Rattle.yw_state.proofs.Gone.{same_item_at}
use Rattle.yw_state.proofs.MapLemmas.{by_name, by_number, by_option, get-insert, get-retain_gone, get-retain_kept, get-update_other, never, nowhere}
use Rattle.yw_state.proofs.RetainWell.{retained_is_well}
use Rattle.yw_state.proofs.Tests.{there_and}
use Rattle.yw_state.proofs.Under.{outside}
use Rattle.yw_state.specs.After.{change, completed, due_where, end_case, make_due, make_select_due, where_some, with_item, with_run, with_sites}
use Rattle.yw_state.specs.Allowed.{Allowed, allows}
use Rattle.yw_state.specs.ByName.{made_of_given}
use Rattle.yw_state.specs.Events.{after}
use Rattle.yw_state.specs.Exlets.{end_if_over, is_over, take_primitive, taken_first}
use Rattle.yw_state.specs.Identity.{Ident, case_ident, same, strictly_under}
use Rattle.yw_state.specs.Judged.{has_rules, task_place}
use Rattle.yw_state.specs.Map as Map
use Rattle.yw_state.specs.Map.{get, insert, update}
use Rattle.yw_state.specs.Nets.{is_atomic}
use Rattle.yw_state.specs.Options.{is_some_and}
use Rattle.yw_state.specs.State.{State, Site, Sites, ItemAt, ItemPart, RunPart, bare_but, drop, is_case, is_item, is_target, item_at, no_checks, run_part}
use Rattle.yw_state.specs.Texts.{Reader, Said, nothing}
use Rattle.yw_state.specs.Well.{IsWell, Stands}
use Rattle.yw_state.specs.Words.{has_check, is_completed}
use Rattle.yw_state.specs.declared.event.Event.TheVariants as events
use Rattle.yw_state.specs.declared.part.Stage.TheVariants.{Ready}
use Rattle.yw_state.specs.declared.part.Way.{Way}
use Rattle.yw_state.specs.declared.part.Way.TheVariants.{Cancelled, Removed}
use Rattle.yw_state.specs.declared.tree.Primitive.{Primitive}
use Rattle.yw_state.specs.declared.tree.Primitive.TheVariants as primitives
use Rattle.yw_state.specs.declared.tree.TreeKind.TheVariants.{Select}
use Rattle.yw_state.specs.declared.tree.TreePlace.{TreePlace}

-- ---- a case is removed

module _ (reader : Reader) (s : State) (well : IsWell reader s) (n : ℕ) (case : is_case s (case_ident n) ≡ true) where
  cancelled : IsWell reader (end_case s n Cancelled)
  unfolding allows after
  cancelled = ending.cancel_keeps_well reader s n nothing well (case, tt)

  same_numbers : (m : ℕ) → is_some (get (insert s.ended n Removed) m) ≡ is_some (get (insert s.ended n Cancelled) m)
  same_numbers m = ap is_some (get-insert by_number s.ended n Removed m) ∙ either _ ∙ sym (ap is_some (get-insert by_number s.ended n Cancelled m))
    where
      either : (b : Bool) → is_some (cond b (Some Removed) (get s.ended m)) ≡ is_some (cond b (Some Cancelled) (get s.ended m))
      either true = refl
      either false = refl

  was : (m : ℕ) (way : Way) → get (insert s.ended n Removed) m ≡ Some way → (w : Way) × (get (insert s.ended n Cancelled) m ≡ Some w)
  was m way e =
      by_option (get (insert s.ended n Cancelled) m)
      (λ none. never (sym (ap is_some none) ∙ sym (same_numbers m) ∙ ap is_some e))
      (λ w some. (w, some))

  removed_is_well : IsWell reader (end_case s n Removed)
  removed_is_well =
      let numbers = cancelled.numbers in
      retained_is_well s (λ k. not (under k (case_ident n))) (insert s.ended n Removed) (outside (case_ident n)) reader
      (record {
        least = numbers.least;
        most = numbers.most;
        identities = numbers.identities;
        drawn = numbers.drawn;
        ended_some = λ m way e. let before = was m way e in numbers.ended_some m before.0 before.1;
        ended_drawn = λ m way e. let before = was m way e in numbers.ended_drawn m before.0 before.1;
        over = λ k x e. same_numbers (case_number k) ∙ numbers.over k x e;
      })
      well

-- ---- a mark changes

module _ (reader : Reader) (s : State) (well : IsWell reader s) (k : Ident) (b : Bool) (target : (x : Site) → Stands s k x → is_target s k ≡ true) where
  abbrev marks : Site → Site
  marks x = record x { suspended = b }

  marked_is_well : IsWell reader (change s k marks)
  marked_is_well = change_is_well s k marks reader may well
    where
      may : MayChange s k marks
      may =
          record {
            keeps = record { net = λ x. refl; item = λ x. refl; run = λ x. refl };
            suspended = λ x here e. target x here;
            due = λ x here kind e. may_be_due s well.marks k kind (ap (λ o. has_check (unwrap_or (option_map (λ (y : Site). y.due) o) no_checks) kind) here ∙ e);
          }

module _ (reader : Reader) (sound : ReadsSound reader) (s : State) (well : IsWell reader s) (r : Ident) (y : RunPart) (run : run_part s r ≡ Some y) (idle : y.waiting ≡ false) where
  abbrev j : Ident
  j = parent r

  abbrev takes : Site → Site
  takes x = with_run taken_first x

  abbrev taken : State
  taken = change s r takes

  deep : 2 ≤ length r
  deep = well.parents.run_depth r y run

  not_itself : ¬ (j ≡ r)
  not_itself e = let longer = shorter r (omega (arith, deep)) in let as_long = ap (λ (i : Ident). length i) e in absurd (omega (arith, longer, as_long))

  not_the_run : ¬ (r ≡ j)
  not_the_run e = not_itself (sym e)

  stands : is_some (get s.sites r) ≡ true
  stands =
      by_option (get s.sites r)
      (λ none. nowhere (ap (option_and_then (λ (x : Site). x.run)) (sym none) ∙ run))
      (λ x some. ap is_some some)

  -- ---- the run goes on behind what was done

  -- where it is as before
  run_goes_on : (t : State) → IsWell reader t → get t.sites r ≡ get s.sites r → IsWell reader (end_if_over (change t r takes) r)
  run_goes_on t well_t same = runs.taken_is_well reader t well_t r y (ap (option_and_then (λ (x : Site). x.run)) same ∙ run) idle

  -- where it has gone
  run_is_gone : (t : State) → IsWell reader t → get t.sites r ≡ None → IsWell reader (end_if_over (change t r takes) r)
  run_is_gone t well_t none =
      subst (λ (m : Sites). IsWell reader (end_if_over (with_sites t m) r)) (sym unchanged)
      (subst (λ (o : Option RunPart). IsWell reader (if is_some_and o is_over then with_sites t (Map.remove t.sites r) else t)) (sym (ap (option_and_then (λ (x : Site). x.run)) none)) well_t)
    where
      unchanged : update t.sites r takes ≡ t.sites
      unchanged = rw none refl

  unchanged_is_well : IsWell reader (end_if_over taken r)
  unchanged_is_well = run_goes_on s well refl

  -- ---- marks

  mark : (k : Ident) (b : Bool) → ¬ (k ≡ r) → ((x : Site) → Stands s k x → is_target s k ≡ true) → IsWell reader (end_if_over (change taken k (λ x. record x { suspended = b })) r)
  mark k b other target =
      subst (λ (m : Sites). IsWell reader (end_if_over (with_sites s m) r)) (sym (updates_swap s.sites k r (λ x. record x { suspended = b }) takes other))
      (run_goes_on (change s k (λ x. record x { suspended = b })) (marked_is_well reader s well k b target) (get-update_other by_name s.sites k (λ x. record x { suspended = b }) r (λ e. other (sym e))))

  at_item : (x : Site) → Stands s j x → is_target s j ≡ true
  at_item x here = well.parents.run_of_target r y run

  abbrev c : Ident
  c = case_ident (case_number r)

  not_its_case : ¬ (c ≡ r)
  not_its_case e = let as_long = ap (λ (i : Ident). length i) e in absurd (omega (arith, deep, as_long))

  case_there : is_case s c ≡ true
  case_there = ancestors.case_stands reader s well r stands

  at_case : (x : Site) → Stands s c x → is_target s c ≡ true
  at_case x here = or_left (is_case s c) (is_item s c) case_there

  -- ---- what stands under the item goes, but for the run

  abbrev kept : Ident → Bool
  kept k = not (strictly_under k j) || same k r

  abbrev bare : Site → Site
  bare x = record x { net = None }

  cut_swap : (h : Site → Site) → update (bare_but taken.sites j r) j h ≡ update (update (bare_but s.sites j r) j h) r takes
  cut_swap h =
      ap (λ (m : Sites). update (update m j bare) j h) (retain_update s.sites kept r takes)
      ∙ ap (λ (m : Sites). update m j h) (updates_swap (Map.retain s.sites kept) j r bare takes not_itself)
      ∙ updates_swap (bare_but s.sites j r) j r h takes not_itself

  run_left : (h : Site → Site) → get (update (bare_but s.sites j r) j h) r ≡ get s.sites r
  run_left h =
      get-update_other by_name (bare_but s.sites j r) j h r not_the_run
      ∙ get-update_other by_name (Map.retain s.sites kept) j bare r not_the_run
      ∙ get-retain_kept by_name s.sites kept r (or_right (not (strictly_under r j)) (same r r) ((bytes_eq-Decides r r).1 refl))

  abbrev cut_back : State → (ItemPart → ItemPart) → State
  cut_back t g = change (with_sites t (bare_but t.sites j r)) j (λ x. record (with_item g x) { due = no_checks })

  abbrev restarts : ItemPart → ItemPart
  restarts x = record x { stage = Ready; who = None; made = [] }

  abbrev left : State
  left = cut_back s restarts

  abbrev choice : ItemAt → TreePlace
  choice x = task_place x.of_task Select

  abbrev due : ItemAt → Site → Site
  due x z = record z { due = due_where (has_rules s (choice x)) Select z.due }

  restart : (x : ItemAt) → item_at s j ≡ Some x → IsWell reader (end_if_over (make_select_due (cut_back taken restarts) j x.of_task) r)
  restart x item =
      subst (λ (m : Sites). IsWell reader (end_if_over (make_select_due (with_sites s m) j x.of_task) r)) (sym (cut_swap (λ z. record (with_item restarts z) { due = no_checks })))
      (either (is_atomic x.of_task.task) (restarted_is_well reader s well r y run idle x item))
    where
      either : (b : Bool) → IsWell reader (if b then make_due left j (choice x) else left) → IsWell reader (end_if_over (if b then make_due (change left r takes) j (choice x) else change left r takes) r)
      either false w = run_goes_on left w (run_left (λ z. record (with_item restarts z) { due = no_checks }))
      either true w =
          subst (λ (m : Sites). IsWell reader (end_if_over (with_sites s m) r)) (sym (updates_swap left.sites j r (due x) takes not_itself))
          (run_goes_on (make_due left j (choice x)) w
          (get-update_other by_name left.sites j (due x) r not_the_run ∙ run_left (λ z. record (with_item restarts z) { due = no_checks })))

  complete : (x : ItemAt) → item_at s j ≡ Some x → IsWell reader (end_if_over (if is_completed x.part.stage then taken else cut_back taken (completed (made_of_given x))) r)
  complete x item = either (is_completed x.part.stage)
    where
      either : (b : Bool) → IsWell reader (end_if_over (if b then taken else cut_back taken (completed (made_of_given x))) r)
      either true = unchanged_is_well
      either false =
          subst (λ (m : Sites). IsWell reader (end_if_over (with_sites s m) r)) (sym (cut_swap (λ z. record (with_item (completed (made_of_given x)) z) { due = no_checks })))
          (run_goes_on (cut_back s (completed (made_of_given x))) (completed_is_well reader s well r y run idle x item) (run_left (λ z. record (with_item (completed (made_of_given x)) z) { due = no_checks })))

  -- ---- all of them

  where_item : (f : ItemAt → State) → ((x : ItemAt) → item_at s j ≡ Some x → IsWell reader (end_if_over (f x) r)) → IsWell reader (end_if_over (where_some (item_at taken j) taken f) r)
  where_item f each =
      subst (λ o. IsWell reader (end_if_over (where_some o taken f) r)) (sym (same_item_at s r j))
      (by_option (item_at s j)
      (λ none. subst (λ o. IsWell reader (end_if_over (where_some o taken f) r)) (sym none) unchanged_is_well)
      (λ x item. subst (λ o. IsWell reader (end_if_over (where_some o taken f) r)) (sym item) (each x item)))

  pub primitive_is_well : (p : Primitive) → IsWell reader (take_primitive s r p)
  primitive_is_well primitives.SuspendItem = mark j true not_itself at_item
  primitive_is_well primitives.ContinueItem = mark j false not_itself at_item
  primitive_is_well primitives.RestartItem = where_item _ restart
  primitive_is_well primitives.CompleteItem = where_item _ complete
  primitive_is_well primitives.RemoveItem =
      subst (λ (m : Sites). IsWell reader (end_if_over (with_sites s m) r)) (sym (retain_update s.sites (λ k. not (under k j)) r takes))
      (run_is_gone (with_sites s (drop s.sites j)) (dropped_is_well reader s well j) (get-retain_gone by_name s.sites (λ k. not (under k j)) r (ap not (under_parent r))))
  primitive_is_well primitives.SuspendCase = mark c true not_its_case at_case
  primitive_is_well primitives.ContinueCase = mark c false not_its_case at_case
  primitive_is_well primitives.RemoveCase =
      subst (λ (m : Sites). IsWell reader (end_if_over (record s { sites = m; ended = insert s.ended (case_number r) Removed }) r)) (sym (retain_update s.sites (λ k. not (under k c)) r takes))
      (run_is_gone (end_case s (case_number r) Removed) (removed_is_well reader s well (case_number r) case_there)
      (get-retain_gone by_name s.sites (λ k. not (under k c)) r (ap not (under_its_case r (omega (arith, deep))))))
  primitive_is_well (primitives.Compensate name) = compensated_is_well reader sound s well r y run idle name
  primitive_is_well (primitives.Unknown text) = unchanged_is_well

module _ (reader : Reader) (sound : ReadsSound reader) (s : State) (r : Ident) (p : Primitive) (said : Said) (well : IsWell reader s) where
  pub prim_keeps_well : Allowed s (events.Prim r p) said → IsWell reader (after s (events.Prim r p) said)
  unfolding allows after
  prim_keeps_well allowed =
      let (y, run, may) = there_and (run_part s r) _ allowed.0 in
      primitive_is_well reader sound s well r y run (not-true y.waiting (and_parts (not y.waiting) _ may).0) p
