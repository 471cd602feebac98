-- The net above an identity that stays is of the same specification and number, behind the events of rule trees and exlets.
use Rattle.std.specs.Prelude.{◌≡◌, ◌≤◌, ℕ, ◌&&◌, ◌||◌, Bool, true, false, not, List, [], ◌∷◌, None, Option, Some, is_some, nat_lt, option_and_then, option_map, refl, if◌then◌else◌}
use Rattle.std.specs.List.{list_any}
use Rattle.std.proofs.Common.{◌∙◌, ap, sym, arith}
use Rattle.std.proofs.lemmas.Bool.{and_from, and_right, false_from_ne_true, le-ltb, or_parts}
use Rattle.std.proofs.lemmas.List.Folds.{list_all-append}
use Rattle.yw_base.specs.Identity.{under, child, parent}
use Rattle.yw_kept.proofs.Staying.{others_stay}
use Rattle.yw_kept.specs.Kept.{is_changed}
use Rattle.yw_moved.proofs.Above.{kind, kind_at}
use Rattle.yw_moved.proofs.Parents.{apart, is_same, under_itself}
use Rattle.yw_plain.specs.Plain.{is_plain_event}
use Rattle.yw_spec.specs.declared.spec.Net.{Net}
use Rattle.yw_spec.specs.declared.spec.Spec.{Spec}
use Rattle.yw_state.proofs.Absent.{part-kept}
use Rattle.yw_state.proofs.Apart.{leaves_cases}
use Rattle.yw_state.proofs.Drawing.{first-drawn}
use Rattle.yw_state.proofs.Gone.{same_item_at}
use Rattle.yw_state.proofs.MapLemmas.{by_name, get-insert_other, get-remove_other, get-update_other}
use Rattle.yw_state.proofs.Tests.{and_left, by_test, map_some, never, then_some, there_and}
use Rattle.yw_state.proofs.Under.{all_parent, under_parent}
use Rattle.yw_state.specs.After.{begin_at, begin_run, change, completed, pass, where_some, where_spec, with_run, with_sites}
use Rattle.yw_state.specs.Allowed.{Allowed, allows, is_first}
use Rattle.yw_state.specs.ByName.{given_named, made_of_given}
use Rattle.yw_state.specs.Events.{after}
use Rattle.yw_state.specs.Exlets.{case_above, cut_back, end_if_over, is_over, primitive, take_primitive, taken_first}
use Rattle.yw_state.specs.Gone.{cut_back_removes, removes}
use Rattle.yw_state.specs.Identity.{Ident, same, strictly_under}
use Rattle.yw_state.specs.Map.{get, remove}
use Rattle.yw_state.specs.Options.{is_some_and}
use Rattle.yw_state.specs.State.{State, Site, ItemAt, ItemPart, NetPart, RunPart, TaskAt, due_at, item_at, item_part, net_at, net_part, run_part, spec_called, task_in, top_called}
use Rattle.yw_state.specs.Texts.{Reader, Said}
use Rattle.yw_state.specs.Well.{IsWell, MarksStand, Stands, is_drawn}
use Rattle.yw_state.specs.Words.{has_check, is_completed, is_executing, is_ready}
use Rattle.yw_state.specs.declared.event.Event.{Event}
use Rattle.yw_state.specs.declared.event.Event.TheVariants as events
use Rattle.yw_state.specs.declared.part.Checks.{Checks}
use Rattle.yw_state.specs.declared.part.Stage.{Stage}
use Rattle.yw_state.specs.declared.part.Stage.TheVariants.{Ready, Executing, Completed}
use Rattle.yw_state.specs.declared.tree.Primitive.{Primitive}
use Rattle.yw_state.specs.declared.tree.Primitive.TheVariants.{SuspendItem, ContinueItem, RestartItem, CompleteItem, RemoveItem, SuspendCase, ContinueCase, RemoveCase, Compensate, Unknown}
use Rattle.yw_state.specs.declared.tree.TreeKind.TheVariants as kinds
use Rattle.yw_idle.specs.Warms.{changes}

module _ (k : Ident) where
  abbrev SameKind : State → State → Type 0
  SameKind s t = kind_at t k ≡ kind_at s k

  site-kind : (s t : State) → get t.sites k ≡ get s.sites k → SameKind s t
  site-kind s t here = ap (λ o. option_map kind (option_and_then (λ (x : Site). x.net) o)) here

  change-kind : (s : State) (j : Ident) (f : Site → Site) → ((x : Site) → (f x).net ≡ x.net) → SameKind s (change s j f)
  change-kind s j f leaves = ap (option_map kind) (part-kept (λ x. x.net) f leaves s.sites j k)

  some-kind : {A : Type 0} (o : Option A) (s : State) (f : A → State) → ((x : A) → o ≡ Some x → SameKind s (f x)) → SameKind s (where_some o s f)
  some-kind None s f each = refl
  some-kind (Some x) s f each = each x refl

  spec-kind : (s : State) (name : List ℕ) → (f : Spec → Net → State) → ((spec : Spec) (net : Net) → SameKind s (f spec net)) → SameKind s (where_spec s name f)
  spec-kind s name f each = some-kind (spec_called s name) s _ (λ spec e. some-kind (top_called s name) s _ (λ net d. each spec net))

  over-kind : (s : State) (r : Ident) → same k r ≡ false → SameKind s (end_if_over s r)
  over-kind s r other = by_over (is_some_and (run_part s r) is_over)
    where
      by_over : (b : Bool) → SameKind s (if b then with_sites s (remove s.sites r) else s)
      by_over true = site-kind s (with_sites s (remove s.sites r)) (get-remove_other by_name s.sites r k (apart k r other))
      by_over false = refl

-- ---- a number that wasn't drawn

undrawn : (s : State) (i : Ident) (n : ℕ) → s.next ≤ n → is_drawn s (child i n) ≡ false
undrawn s i n later =
    list_all-append (λ m. nat_lt m s.next) i (n ∷ []) ∙ and_right (is_drawn s i) _ (ap (λ b. b && true) (le-ltb n s.next later))

pub not_new : (s : State) (q i : Ident) (n : ℕ) → is_drawn s q ≡ true → s.next ≤ n → same q (child i n) ≡ false
not_new s q i n drawn later = false_from_ne_true _ (λ here. never (sym (undrawn s i n later) ∙ ap (is_drawn s) (sym (is_same q (child i n) here)) ∙ drawn))

-- ---- an item that is ready has no net

pub no_both : (stage : Stage) → is_ready stage ≡ true → is_executing stage ≡ true → ⊥
no_both Ready ready runs = never runs
no_both Executing ready runs = never ready
no_both Completed ready runs = never ready

ready_now : (s : State) (i : Ident) (y : ItemAt) → MarksStand s → has_check (due_at s i) kinds.Select ≡ true → item_at s i ≡ Some y
    → is_ready y.part.stage ≡ true
ready_now s i y marks due at =
    let (p, is, ready) = there_and (item_part s i) (λ (x : ItemPart). is_ready x.stage) (marks.select i due) in
    let at_part = ap (option_and_then
    (λ (x : ItemPart). option_and_then (λ n. option_map (λ t. record { part = x; of_task = t }) (task_in n x.task)) (net_at s (parent i)))) (sym is) ∙ at in
    let (n, has, inner) = then_some (λ n. option_map (λ t. record { part = p; of_task = t }) (task_in n p.task)) (net_at s (parent i)) y at_part in
    let (t, of_task, made) = map_some (λ (t : TaskAt). record { part = p; of_task = t }) (task_in n p.task) y inner in
    ap (λ (z : ItemAt). is_ready z.part.stage) (sym made) ∙ ready

first_select : (c : Checks) → (c.select && not c.pre) ≡ true → c.select ≡ true
first_select c e = and_left _ _ e

-- ---- the events

module _ {reader : Reader} (s : State) (j : Ident) (x : Site) (n : NetPart) (well : IsWell reader s) (stands : Stands s j x)
    (has : net_part s (parent j) ≡ Some n) where
  abbrev q : Ident
  q = parent j

  drawn : is_drawn s q ≡ true
  drawn = all_parent (λ m. nat_lt m s.next) j (well.numbers.drawn j x stands)

  -- j lies under what stands at q
  lies : (i : Ident) → same q i ≡ true → under j i ≡ true
  lies i here = under_parent j i (ap (under q) (sym (is_same q i here)) ∙ under_itself q)

  not_started : (i : Ident) (y : ItemAt) → same q i ≡ true → item_at s i ≡ Some y → is_ready y.part.stage ≡ true → ⊥
  not_started i y here at ready =
      no_both y.part.stage ready (and_left _ _ (and_left _ _ (well.nets.of_item i n y (ap (net_part s) (sym (is_same q i here)) ∙ has) at)))

  not_at_work : (r : Ident) (p : RunPart → Bool) → same q r ≡ true → is_some_and (run_part s r) (λ y. not y.waiting && p y) ≡ true → ⊥
  not_at_work r p here may =
      let (y, is, works) = there_and (run_part s r) (λ y. not y.waiting && p y) may in
      let waits = and_left y.waiting _ (well.nets.of_run r n y (ap (net_part s) (sym (is_same q r here)) ∙ has) is) in
      never (sym (ap not waits) ∙ and_left _ _ works)

  -- ---- a primitive

  module _ (r : Ident) (not_run : same q r ≡ false) where
    began : kind_at (change s r (with_run taken_first)) q ≡ kind_at s q
    began = change-kind q s r _ (λ y. refl)

    -- behind the primitive the run may go
    ended : (p : Primitive) → kind_at (primitive (change s r (with_run taken_first)) r (parent r) p) q ≡ kind_at (change s r (with_run taken_first)) q → kind_at (take_primitive s r p) q ≡ kind_at s q
    ended p same_kind = over-kind q (primitive (change s r (with_run taken_first)) r (parent r) p) r not_run ∙ same_kind ∙ began

    cut_off : (b : Bool) → b ≡ true → same q (parent r) ≡ true → same j r ≡ false → same j (parent r) ≡ false → (b && cut_back_removes r j) ≡ true
    cut_off b so here not_itself other =
        and_from b _ so (and_from (strictly_under j (parent r)) _ (and_from (under j (parent r)) _ (lies (parent r) here) (ap not other)) (ap not not_itself))

    -- what is done at q is done by one that leaves the net
    done_kind : (p : Primitive) → is_changed r p q ≡ true → same j r ≡ false → same j (parent r) ≡ false
        → removes s (events.Prim r p) j ≡ false → kind_at (take_primitive s r p) q ≡ kind_at s q
    unfolding removes
    done_kind SuspendItem here a b stays = ended SuspendItem (change-kind q (change s r (with_run taken_first)) (parent r) _ (λ y. refl))
    done_kind ContinueItem here a b stays = ended ContinueItem (change-kind q (change s r (with_run taken_first)) (parent r) _ (λ y. refl))
    done_kind SuspendCase here a b stays = ended SuspendCase (change-kind q (change s r (with_run taken_first)) (case_above r) _ (λ y. refl))
    done_kind ContinueCase here a b stays = ended ContinueCase (change-kind q (change s r (with_run taken_first)) (case_above r) _ (λ y. refl))
    done_kind RestartItem here a b stays =
        ended RestartItem (some-kind q (item_at (change s r (with_run taken_first)) (parent r)) (change s r (with_run taken_first)) _ (λ y at.
        never (sym stays ∙ cut_off (is_some (item_at s (parent r))) (ap is_some (sym (same_item_at s r (parent r)) ∙ at)) here a b)))
    done_kind CompleteItem here a b stays =
        ended CompleteItem (some-kind q (item_at (change s r (with_run taken_first)) (parent r)) (change s r (with_run taken_first)) _ (λ y at.
        by_test (is_completed y.part.stage)
        (λ over. ap (λ c. kind_at
        (if c then change s r (with_run taken_first) else cut_back (change s r (with_run taken_first)) r (parent r) (completed (made_of_given y))) q) over)
        (λ runs. never (sym stays ∙ cut_off (is_some_and (item_at s (parent r)) (λ z. not (is_completed z.part.stage)))
        (ap (λ o. is_some_and o (λ (z : ItemAt). not (is_completed z.part.stage))) (sym (same_item_at s r (parent r)) ∙ at) ∙ ap not runs) here a b))))
    done_kind RemoveItem here a b stays = never here
    done_kind RemoveCase here a b stays = never here
    done_kind (Compensate name) here a b stays = never here
    done_kind (Unknown text) here a b stays = never here

  pub kind_stays : (e : Event) (said : Said) → is_plain_event e ≡ false → Allowed s e said → removes s e j ≡ false → removes s e q ≡ false
      → list_any (same j) (changes e) ≡ false
      → kind_at (after s e said) q ≡ kind_at s q
  unfolding after allows removes
  kind_stays (events.AddRule p at side when conclusion number) said not_plain ok stays above none =
      site-kind q s (after s (events.AddRule p at side when conclusion number) said)
      (ap (λ m. get m q) (leaves_cases s (events.AddRule p at side when conclusion number) said refl).sites)
  kind_stays (events.Pass i check) said not_plain ok stays above none = change-kind q s i _ (λ y. refl)
  kind_stays (events.Except i check node m) said not_plain ok stays above none =
      let later = first-drawn s (events.Except i check node m) said m ok.0 refl in
      site-kind q (pass s i check) (begin_run (pass s i check) i check node m)
      (get-insert_other by_name (pass s i check).sites (child i m) _ q (apart q (child i m) (not_new s q i m drawn (omega (arith, later)))))
      ∙ change-kind q s i _ (λ y. refl)
  kind_stays (events.Raise i kind_of node m) said not_plain ok stays above none =
      let later = first-drawn s (events.Raise i kind_of node m) said m ok.0 refl in
      site-kind q s (begin_run s i kind_of node m)
      (get-insert_other by_name s.sites (child i m) _ q (apart q (child i m) (not_new s q i m drawn (omega (arith, later)))))
  kind_stays (events.Substitute i name) said not_plain ok stays above none =
      some-kind q (item_at s i) s _ (λ y at. by_test (same q i)
      (λ here. absurd (not_started i y here at (ready_now s i y well.marks (first_select (due_at s i) (and_left _ _ (and_left _ _ (and_left _ _ ok.0)))) at)))
      (λ other. spec-kind q s name _ (λ spec net.
      site-kind q (pass s i kinds.Select) (begin_at (pass s i kinds.Select) i name spec.top (given_named y) None net)
      (get-update_other by_name (pass s i kinds.Select).sites i _ q (apart q i other)) ∙ change-kind q s i _ (λ z. refl))))
  kind_stays (events.CompleteWorklet i) said not_plain ok stays above none = by_test (same q i)
      (λ here. never (sym stays ∙ and_from (under j i) _ (lies i here) (ap not (or_parts (same j i) false none).0)))
      (λ other. site-kind q s (after s (events.CompleteWorklet i) said) (others_stay q s (events.CompleteWorklet i) said refl above other))
  kind_stays (events.Prim r p) said not_plain ok stays above none =
      let parts = or_parts (same j r) _ none in
      let more = or_parts (same j (parent r)) _ parts.1 in
      by_test (same q r)
      (λ here. absurd (not_at_work r (λ y. is_first p y.rest) here ok.0))
      (λ not_run. by_test (is_changed r p q)
      (λ here. done_kind r not_run p here parts.0 more.0 stays)
      (λ other. site-kind q s (after s (events.Prim r p) said)
      (others_stay q s (events.Prim r p) said refl above (neither (same q r) (is_changed r p q) not_run other))))
    where
      neither : (a b : Bool) → a ≡ false → b ≡ false → (a || b) ≡ false
      neither true b e f = never (sym e)
      neither false b e f = f
  kind_stays (events.Compensated r) said not_plain ok stays above none = by_test (same q r)
      (λ here. never (sym stays ∙ and_from (under j r) _ (lies r here) (ap not (or_parts (same j r) _ none).0)))
      (λ other. site-kind q s (after s (events.Compensated r) said) (others_stay q s (events.Compensated r) said refl above other))
  kind_stays (events.Suspend i) said not_plain ok stays above none = change-kind q s i _ (λ y. refl)
  kind_stays (events.Continue i) said not_plain ok stays above none = change-kind q s i _ (λ y. refl)
  kind_stays e said not_plain ok stays above none = never (sym not_plain)
