-- A case is quiet where each identity in it is still: what comes of itself, comes at one identity, and a test there says so.
use Rattle.std.specs.Prelude.{◌≡◌, ℕ, ◌+◌, ◌==◌, ◌&&◌, ◌||◌, Bool, true, not, List, length, Option, Some, None, is_some, nat_eq, nat_le, option_and_then, refl, unwrap_or, option_map}
use Rattle.std.specs.List.{list_all}
use Rattle.std.specs.Cmp.Lexicographic.{pointwise}
use Rattle.std.proofs.Common.{sym, ◌∙◌, ap}
use Rattle.std.proofs.lemmas.Bool.{and_parts, and_from, eqb-true, or_left, or_right}
use Rattle.yw_base.specs.Identity.{number_end, case_number}
use Rattle.yw_spec.specs.declared.spec.Place.{Place}
use Rattle.yw_state.proofs.Standing.{Standing, at_item, at_net, at_run_part, at_task}
use Rattle.yw_state.proofs.Tests.{never, same_numbers, some_same, then_some, there_and}
use Rattle.yw_state.specs.Allowed.{allows, exit_values, has_room_for, may_exit, may_leave, place_numbers}
use Rattle.yw_state.specs.Automatic.{IsQuiet}
use Rattle.yw_state.specs.Identity.{Ident, case_ident}
use Rattle.yw_state.specs.Joins.{NoWait, at_output, joins}
use Rattle.yw_state.specs.Judged.{is_manual}
use Rattle.yw_state.specs.Map.{get}
use Rattle.yw_state.specs.Nets.{child_net, is_atomic, is_empty, task_number}
use Rattle.yw_state.specs.Options.{is_some_and}
use Rattle.yw_state.specs.Passing.{entry_values, split_places, within_bounds}
use Rattle.yw_state.specs.State.{State, Site, ItemAt, NetAt, RunPart, TaskAt, due_at, item_at, net_at, no_checks, run_part, task_at, task_in}
use Rattle.yw_state.specs.Values.{Row}
use Rattle.yw_state.specs.Words.{active, any_due, busy, clear, is_executing, is_first_due, is_ready}
use Rattle.yw_state.specs.declared.event.Event.TheVariants as events
use Rattle.yw_state.specs.declared.part.Checks.{Checks}
use Rattle.yw_state.specs.declared.tree.TreeKind.{TreeKind}
use Rattle.yw_state.specs.declared.tree.TreeKind.TheVariants as kinds
use Rattle.yw_still.proofs.Joining.{joins_tokens}
use Rattle.yw_still.proofs.Numbers.{clash}
use Rattle.yw_still.specs.Still.{CaseIsStill, IsStill, item_begins, item_ends, item_goes_on, may_be_made, task_numbered}

-- ---- checks

first_is_due : (c : Checks) (check : TreeKind) → is_first_due c check ≡ true → any_due c ≡ true
first_is_due c kinds.Pre e = or_left _ _ (or_left _ _ e)
first_is_due c kinds.Select e = or_left _ _ (or_right _ _ (and_parts c.select (not c.pre) e).0)
first_is_due c kinds.Post e = or_right _ _ (and_parts c.post (not c.pre) (and_parts (c.post && not c.pre) (not c.select) e).0).0
first_is_due c kinds.External e = never e
first_is_due c kinds.Timeout e = never e
first_is_due c kinds.Abort e = never e

due_stands : (s : State) (j : Ident) → any_due (due_at s j) ≡ true → Standing s j
due_stands s j e = found (get s.sites j) refl e
  where
    found : (o : Option Site) → get s.sites j ≡ o → any_due (unwrap_or (option_map (λ (x : Site). x.due) o) no_checks) ≡ true → Standing s j
    found None is e = never e
    found (Some x) is e = (x, is)

-- ---- items

module _ (s : State) (j : Ident) where
  -- an item that begins or ends, goes on
  goes_on : (p : ItemAt → Bool) → ((x : ItemAt) → p x ≡ true → (item_begins s j x || item_ends s j x) ≡ true) → clear s j ≡ true → is_some_and (item_at s j) p ≡ true → item_goes_on s j ≡ true
  goes_on p goes free may =
      let (x, is, passes) = there_and (item_at s j) p may in
      and_from (clear s j) _ free (ap (λ o. is_some_and o (λ x. item_begins s j x || item_ends s j x)) is ∙ goes x passes)

  begins_child : (x : ItemAt) → not (busy s j) ≡ true → (is_ready x.part.stage && is_some (child_net x.of_task.task)) ≡ true → (item_begins s j x || item_ends s j x) ≡ true
  begins_child x idle e =
      let parts = and_parts (is_ready x.part.stage) (is_some (child_net x.of_task.task)) e in
      or_left (item_begins s j x) (item_ends s j x) (and_from (is_ready x.part.stage) _ parts.0 (or_right (is_empty x.of_task.task) _ (and_from _ _ parts.1 idle)))

  begins_empty : (x : ItemAt) → (is_ready x.part.stage && is_empty x.of_task.task) ≡ true → (item_begins s j x || item_ends s j x) ≡ true
  begins_empty x e =
      let parts = and_parts (is_ready x.part.stage) (is_empty x.of_task.task) e in
      or_left (item_begins s j x) (item_ends s j x) (and_from (is_ready x.part.stage) _ parts.0 (or_left (is_empty x.of_task.task) _ parts.1))

  ends : (x : ItemAt) → not (busy s j) ≡ true → at_output s j ≡ true → is_executing x.part.stage ≡ true → (is_some (child_net x.of_task.task) || is_atomic x.of_task.task) ≡ true
      → (item_begins s j x || item_ends s j x) ≡ true
  ends x idle out at kind =
      or_right (item_begins s j x) (item_ends s j x)
      (and_from (is_executing x.part.stage && (is_some (child_net x.of_task.task) || is_atomic x.of_task.task) && not (busy s j)) (at_output s j)
      (and_from (is_executing x.part.stage && (is_some (child_net x.of_task.task) || is_atomic x.of_task.task)) (not (busy s j)) (and_from _ _ at kind) idle) out)

-- ---- tasks

abbrev Numbered : State → Ident → TaskAt → Type 0
Numbered s i x = (k : ℕ) × (task_numbered s i k ≡ Some x)

numbered : (s : State) (i : Ident) (t : List ℕ) (x : TaskAt) → task_at s i t ≡ Some x → Numbered s i x
numbered s i t x e =
    let (n, within, found) = then_some (λ (n : NetAt). option_and_then (task_in n) (task_number n.net t)) (net_at s i) x e in
    let (k, number, in_net) = then_some (task_in n) (task_number n.net t) x found in
    (k, ap (option_and_then (λ (m : NetAt). task_in m k)) within ∙ in_net)

-- ---- what comes, comes at one identity

module _ (s : State) (n : ℕ) (still : CaseIsStill s n) where
  still_at : (j : Ident) → Some (case_number j) ≡ Some n → Standing s j → IsStill s j
  still_at j here found = still j found.0 found.1 (some_same (case_number j) n here)

  not_due : (j : Ident) (check : TreeKind) → Some (case_number j) ≡ Some n → (is_first_due (due_at s j) check && not (busy s j)) ≡ true → ⊥
  not_due j check here next =
      let parts = and_parts (is_first_due (due_at s j) check) (not (busy s j)) next in
      let any = first_is_due (due_at s j) check parts.0 in
      clash (still_at j here (due_stands s j any)).check (and_from _ _ any parts.1)

  not_going : (j : Ident) → Some (case_number j) ≡ Some n → item_goes_on s j ≡ true → ⊥
  not_going j here goes =
      let (x, is, may) = there_and (item_at s j) _ (and_parts (clear s j) _ goes).1 in
      clash (still_at j here (at_item s j x is)).item goes

  module _ (i : Ident) (x : TaskAt) (is_task : Numbered s i x) (here : Some (case_number i) ≡ Some n) (stands : Standing s i) (free : clear s i ≡ true) where
    not_entered : (places : List Place) (first count : ℕ) → not (is_manual s x) ≡ true → NoWait s i x
        → (not (active s i x.number) && is_some_and (place_numbers x.within.net places) (joins x.task.join s i x.task.before)
        && (is_some_and (entry_values x.task x.within.part.vals) (λ rows. length rows == count) && within_bounds x.task.many count)
        && (first == s.next && nat_le (first + count) number_end)) ≡ true → ⊥
    not_entered places first count by_itself no_wait may =
        let drawn = and_parts _ (first == s.next && nat_le (first + count) number_end) may in
        let made = and_parts _ (is_some_and (entry_values x.task x.within.part.vals) (λ rows. length rows == count) && within_bounds x.task.many count) drawn.0 in
        let joined = and_parts (not (active s i x.number)) (is_some_and (place_numbers x.within.net places) (joins x.task.join s i x.task.before)) made.0 in
        let numbers = and_parts (first == s.next) (nat_le (first + count) number_end) drawn.1 in
        let values = and_parts (is_some_and (entry_values x.task x.within.part.vals) (λ rows. length rows == count)) (within_bounds x.task.many count) made.1 in
        let (cs, cs_are, takes) = there_and (place_numbers x.within.net places) (joins x.task.join s i x.task.before) joined.1 in
        let (rows, rows_are, counted) = there_and (entry_values x.task x.within.part.vals) (λ (rows : List Row). length rows == count) values.0 in
        let as_many : length rows ≡ count = eqb-true (length rows) count counted in
        let is_next : first ≡ s.next = eqb-true first s.next numbers.0 in
        let bounds : within_bounds x.task.many (length rows) ≡ true = ap (within_bounds x.task.many) as_many ∙ values.1 in
        let left : nat_le (s.next + length rows) number_end ≡ true = ap (λ m. nat_le (s.next + m) number_end) as_many ∙ ap (λ m. nat_le (m + count) number_end) (sym is_next) ∙ numbers.1 in
        let fits = ap (λ o. is_some_and o (may_be_made s x)) rows_are ∙ and_from _ _ bounds left in
        let enters = and_from _ _ (and_from _ _ (and_from _ _ free joined.0) (joins_tokens s i x.task.before x.task.join cs takes)) fits in
        let waits = (still_at i here stands).entered is_task.0 x is_task.1 (and_from _ _ by_itself enters) in
        no_wait waits.0 waits.1

    not_left : (places : List Place) → may_exit s i places x ≡ true → ⊥
    not_left places may =
        let parts = and_parts (active s i x.number && may_leave s i x) _ may in
        let goes = and_parts (active s i x.number) (may_leave s i x) parts.0 in
        let (cs, cs_are, puts) = there_and (place_numbers x.within.net places) _ parts.1 in
        let on = and_parts (pointwise nat_eq cs (split_places x.task (exit_values s i x))) (list_all (has_room_for s i x) cs) puts in
        let room = ap (list_all (has_room_for s i x)) (sym (same_numbers cs (split_places x.task (exit_values s i x)) on.0)) ∙ on.1 in
        clash ((still_at i here stands).left is_task.0 x is_task.1) (and_from _ _ (and_from _ _ (and_from _ _ free goes.0) goes.1) room)

  pub quiet : IsQuiet s n
  unfolding allows
  quiet (events.Enter i t places first count) c =
      let parts = and_parts (clear s i) _ c.allowed.0 in
      let (x, is, may) = there_and (task_at s i t) _ parts.1 in
      let by_itself = ap (λ o. is_some_and o (λ x. not (is_manual s x))) (sym is) ∙ c.automatic in
      not_entered i x (numbered s i t x is) c.here (at_task s i t x is) parts.0 places first count by_itself (c.allowed.1 x is) may
  quiet (events.Exit i t places) c =
      let parts = and_parts (clear s i) _ c.allowed.0 in
      let (x, is, may) = there_and (task_at s i t) _ parts.1 in
      not_left i x (numbered s i t x is) c.here (at_task s i t x is) parts.0 places may
  quiet (events.Finish m) c =
      let parts = and_parts (clear s (case_ident m) && not (busy s (case_ident m))) (at_output s (case_ident m)) c.allowed.0 in
      let (net, is, on) = there_and (net_at s (case_ident m)) _ parts.1 in
      clash (still_at (case_ident m) c.here (at_net s (case_ident m) net is)).case c.allowed.0
  quiet (events.StartSub j) c =
      let parts = and_parts (clear s j && not (busy s j)) _ c.allowed.0 in
      let free = and_parts (clear s j) (not (busy s j)) parts.0 in
      not_going j c.here (goes_on s j _ (λ x e. begins_child s j x free.1 e) free.0 parts.1)
  quiet (events.CompleteSub j) c =
      let out = and_parts _ (at_output s j) c.allowed.0 in
      let parts = and_parts (clear s j && not (busy s j)) _ out.0 in
      let free = and_parts (clear s j) (not (busy s j)) parts.0 in
      not_going j c.here (goes_on s j _ (λ x e. let k = and_parts (is_executing x.part.stage) (is_some (child_net x.of_task.task)) e in ends s j x free.1 out.1 k.0 (or_left _ _ k.1)) free.0 parts.1)
  quiet (events.CompleteEmpty j) c =
      let parts = and_parts (clear s j) _ c.allowed.0 in
      not_going j c.here (goes_on s j _ (λ x e. begins_empty s j x e) parts.0 parts.1)
  quiet (events.Pass j check) c = not_due j check c.here (and_parts (is_first_due (due_at s j) check && not (busy s j)) _ c.allowed.0).0
  quiet (events.Except j check node m) c =
      not_due j check c.here (and_parts _ (is_first_due (due_at s j) check && not (busy s j)) (and_parts _ _ (and_parts _ _ c.allowed.0).0).0).1
  quiet (events.Substitute j worklet) c =
      not_due j kinds.Select c.here (and_parts (is_first_due (due_at s j) kinds.Select && not (busy s j)) _ (and_parts _ _ c.allowed.0).0).0
  quiet (events.CompleteWorklet j) c =
      let out = and_parts _ (at_output s j) c.allowed.0 in
      let parts = and_parts (clear s j && not (busy s j)) _ out.0 in
      let free = and_parts (clear s j) (not (busy s j)) parts.0 in
      not_going j c.here (goes_on s j _ (λ x e. let k = and_parts (is_executing x.part.stage) (is_atomic x.of_task.task) e in ends s j x free.1 out.1 k.0 (or_right _ _ k.1)) free.0 parts.1)
  quiet (events.Prim r p) c =
      let (x, is, may) = there_and (run_part s r) _ c.allowed.0 in
      clash (still_at r c.here (at_run_part s r x is)).run (ap (λ o. is_some_and o (λ (y : RunPart). not y.waiting)) is ∙ (and_parts (not x.waiting) _ may).0)
  quiet (events.Compensated r) c =
      let parts = and_parts _ _ (and_parts _ _ c.allowed.0).0 in
      let (x, is, may) = there_and (run_part s r) _ parts.0 in
      clash (still_at r c.here (at_run_part s r x is)).compensation c.allowed.0
  quiet (events.Person name roles) c = never c.automatic
  quiet (events.Load name text) c = never c.automatic
  quiet (events.AddRule p at side when conclusion number) c = never c.automatic
  quiet (events.Launch m spec vals) c = never c.automatic
  quiet (events.Start j who) c = never c.automatic
  quiet (events.Complete j out) c = never c.automatic
  quiet (events.Add i t value m) c = never c.automatic
  quiet (events.Cancel m) c = never c.automatic
  quiet (events.Raise j kind node m) c = never c.automatic
  quiet (events.Suspend j) c = never c.automatic
  quiet (events.Continue j) c = never c.automatic
  quiet (events.Advance m) c = never c.automatic
