-- As many items are done behind an event as before, or one more of the task whose item it completes.
use Rattle.std.specs.List.{list_any}
use Rattle.std.specs.Ordering.{eq_by_cmp}
use Rattle.std.specs.Prelude.{◌≡◌, ◌+◌, ◌==◌, ◌&&◌, suc, ℕ, Bool, true, false, cond, [], Option, Some, None, is_some, option_and_then, option_map, refl, unwrap_or, if◌then◌else◌}
use Rattle.std.proofs.Common.{add-zero, inl, inr, sym, ◌∙◌, ap, arith, subst}
use Rattle.std.proofs.lemmas.Bool.{and_parts, false_from_ne_true}
use Rattle.yw_moved.proofs.Above.{made_undrawn}
use Rattle.yw_moved.proofs.Parents.{is_same, same_itself}
use Rattle.yw_moved.proofs.Sites.{added-same, enter-same, left_alone}
use Rattle.yw_moved.specs.Moved.{done_at, made_by}
use Rattle.yw_plain.specs.Plain.{is_plain_event}
use Rattle.yw_progress.proofs.Changing.{bared-item, completed-item, exit-item, net-item, own-item, site-item, some-item, started-item}
use Rattle.yw_progress.proofs.Counting.{CountsBy, as_many, by_part, done_item, done_part, done_there, is_finished, not_below, not_finished, one_more}
use Rattle.yw_progress.proofs.Leaving.{none_or_same}
use Rattle.yw_progress.proofs.Staying.{anew_or_left, child_stays, made_lacks, neither, net_of_task, not_launched, stood, undrawn_gone}
use Rattle.yw_progress.specs.Progress.{CountsBehind, completed_by, completes_done, done_in, is_anew, is_left}
use Rattle.yw_state.proofs.MapLemmas.{by_name, tied_self}
use Rattle.yw_state.proofs.Tests.{and_left, and_right, by_test, map_some, never, nowhere, some_same, then_some, there_and}
use Rattle.yw_state.specs.After.{begun, change, complete, completed, end_net, enter, exit, new_item, start_sub, take, where_some, with_item, with_sites}
use Rattle.yw_state.specs.Allowed.{Allowed, allows, place_numbers}
use Rattle.yw_state.specs.ByName.{made_by_child}
use Rattle.yw_state.specs.Events.{after}
use Rattle.yw_state.specs.Identity.{Ident, is_child, same}
use Rattle.yw_base.specs.Identity.{parent}
use Rattle.yw_state.specs.Map.{get, lexical}
use Rattle.yw_state.specs.Options.{is_some_and}
use Rattle.yw_state.specs.State.{State, ItemAt, ItemPart, TaskAt, bare, item_at, item_part, net_at, net_part, task_at, task_in}
use Rattle.yw_state.specs.Texts.{Reader, Said}
use Rattle.yw_state.specs.Well.{IsWell}
use Rattle.yw_state.specs.Words.{done, is_completed, is_executing, is_ready}
use Rattle.yw_state.specs.declared.event.Event.{Event}
use Rattle.yw_state.specs.declared.event.Event.TheVariants as events
use Rattle.yw_state.specs.declared.part.Stage.{Stage}
use Rattle.yw_state.specs.declared.part.Stage.TheVariants.{Ready, Executing, Completed}

-- ---- stages

ready_on : (stage : Stage) → is_ready stage ≡ true → is_completed stage ≡ false
ready_on Ready ready = refl
ready_on Executing ready = refl
ready_on Completed ready = never ready

executing_on : (stage : Stage) → is_executing stage ≡ true → is_completed stage ≡ false
executing_on Ready runs = refl
executing_on Executing runs = refl
executing_on Completed runs = never runs

part_of : (s : State) (j : Ident) (x : ItemAt) → item_at s j ≡ Some x → item_part s j ≡ Some x.part
part_of s j x found =
    let (y, item, in_net) = then_some _ (item_part s j) x found in
    let (n, net, of_task) = then_some _ (net_at s (parent j)) x in_net in
    let as_item : TaskAt → ItemAt = λ t. record { part = y; of_task = t } in
    let (t, task, is) = map_some as_item (task_in n y.task) x of_task in
    item ∙ ap (λ (z : ItemAt). Some z.part) is

-- ---- the item that an event completes

-- It is at work before, and completed behind it.
record Completes (s t : State) (j : Ident) : Type 0 where
  before : ItemPart
  stood : item_part s j ≡ Some before
  at_work : is_completed before.stage ≡ false
  behind : ItemPart
  stands : item_part t j ≡ Some behind
  over : is_completed behind.stage ≡ true

completed_is_done : (e : Event) (j : Ident) → completed_by e ≡ Some j → done_at e ≡ Some j
completed_is_done (events.Complete l out) j at = at
completed_is_done (events.CompleteSub l) j at = at
completed_is_done (events.CompleteEmpty l) j at = at
completed_is_done e j at = nowhere at

own_completes : (s : State) (e : Event) (said : Said) (j : Ident) → Allowed s e said → completed_by e ≡ Some j → Completes s (after s e said) j
unfolding after allows
own_completes s (events.Complete l out) said j ok at =
    let (x, found, may) = there_and (item_at s l) _ (and_right _ _ ok.0) in
    let runs = and_left _ _ (and_left _ _ (and_left _ _ (and_left _ _ may))) in
    subst (λ (q : Ident). Completes s (where_some (item_at s l) s (complete s l out)) q) (some_same l j at)
    (record {
      before = x.part;
      stood = part_of s l x found;
      at_work = executing_on x.part.stage runs;
      behind = completed out x.part;
      stands =
          ap (λ o. item_part (where_some o s (complete s l out)) l) found ∙ completed-item l s out x
          ∙ ap (option_map (completed out)) (part_of s l x found);
      over = refl;
    })
own_completes s (events.CompleteSub l) said j ok at =
    let (x, found, may) = there_and (item_at s l) _ (and_right _ _ (and_left _ _ ok.0)) in
    let (n, net, marked) = there_and (net_at s l) _ (and_right _ _ ok.0) in
    let bared : State = with_sites s (bare s.sites l) in
    subst (λ (q : Ident). Completes s (where_some (item_at s l) s (end_net s l made_by_child)) q) (some_same l j at)
    (record {
      before = x.part;
      stood = part_of s l x found;
      at_work = executing_on x.part.stage (and_left _ _ may);
      behind = completed (made_by_child n x) x.part;
      stands =
          ap (λ o. item_part (where_some o s (end_net s l made_by_child)) l) found
          ∙ ap (λ o. item_part (where_some o s (λ m. complete bared l (made_by_child m x) x)) l) net
          ∙ completed-item l bared (made_by_child n x) x
          ∙ ap (option_map (completed (made_by_child n x))) (bared-item l s ∙ part_of s l x found);
      over = refl;
    })
own_completes s (events.CompleteEmpty l) said j ok at =
    let (x, found, may) = there_and (item_at s l) _ (and_right _ _ ok.0) in
    subst (λ (q : Ident). Completes s (change s l (with_item (completed []))) q) (some_same l j at)
    (record {
      before = x.part;
      stood = part_of s l x found;
      at_work = ready_on x.part.stage (and_left _ _ may);
      behind = completed [] x.part;
      stands = own-item l s (completed []) (with_item (completed [])) (λ y. refl) ∙ ap (option_map (completed [])) (part_of s l x found);
      over = refl;
    })
own_completes s e said j ok at = nowhere at

module _ {reader : Reader} (s : State) (e : Event) (said : Said) (i : Ident) (well : IsWell reader s) (free : Ident → Bool)
    (now : CountsBy free (after s e said) i) (is : is_plain_event e ≡ true) (ok : Allowed s e said)
    (has : is_some (net_part (after s e said) i) ≡ true) (old : anew_or_left e i ≡ false) (k : ℕ) where
  abbrev t : State
  t = after s e said

  -- the same is done at q
  abbrev SameAt : Ident → Type 0
  SameAt q = done_there free i k q t.sites ≡ done_there free i k q s.sites

  by_item : (q : Ident) → item_part t q ≡ item_part s q → SameAt q
  by_item q same = by_part free i k q (get t.sites q) ∙ ap (done_part free i k q) same ∙ sym (by_part free i k q (get s.sites q))

  -- nothing is done at it, before and behind
  abbrev Undone : State → Ident → Type 0
  Undone u q = done_part free i k q (item_part u q) ≡ None

  undone : (q : Ident) → Undone t q → Undone s q → SameAt q
  undone q now before = by_part free i k q (get t.sites q) ∙ now ∙ sym (by_part free i k q (get s.sites q) ∙ before)

  outside : (q : Ident) → is_child q i ≡ false → SameAt q
  outside q out = undone q (not_below free i k q (item_part t q) out) (not_below free i k q (item_part s q) out)

  -- an item that comes isn't done
  new_undone : (q n : _) (given : _) (due : _) → done_item free i k q (new_item n given due) ≡ None
  new_undone q n given due = not_finished free i k q (record { task = n; stage = Ready; given = given; made = []; who = None }) refl

  made_same : (q : Ident) → is_child q i ≡ true → list_any (same q) (made_by e) ≡ true → SameAt q
  made_same q below made =
      made_lacks (done_item free i k q) (new_undone q) q s e said well.numbers ok (not_launched s e said i well is ok has old q below made) made
      ∙ sym (ap (option_and_then (done_item free i k q)) (undrawn_gone s q well.numbers (made_undrawn s e said q ok made)))

  elsewhere : (q : Ident) → is_child q i ≡ true → is_some_and (done_at e) (same q) ≡ false → SameAt q
  elsewhere q below other =
      by_test (list_any (same q) (made_by e))
      (λ made. made_same q below made)
      (λ new. ap (option_and_then (done_item free i k q)) (left_alone q s e said is ok (child_stays s e said i well is ok has old q below) other new))

  -- ---- where the event is done

  begun_undone : (q : Ident) (who : _) (x : ItemPart) → done_part free i k q (Some (begun who x)) ≡ None
  begun_undone q who x = not_finished free i k q (begun who x) refl

  ready_undone : (q : Ident) (x : ItemAt) → item_at s q ≡ Some x → is_ready x.part.stage ≡ true → Undone s q
  ready_undone q x found ready = ap (done_part free i k q) (part_of s q x found) ∙ not_finished free i k q x.part (ready_on x.part.stage ready)

  -- the item that is completed counts by whether it is done behind the event
  its_count : (j : Ident) (own : Completes s t j) → is_child j i ≡ true → done t j own.behind ≡ free j
  its_count j own below = now j own.behind below own.stands ∙ ap (λ b. b && free j) own.over

  completed_same : (j : Ident) → completed_by e ≡ Some j → completes_done t e i k ≡ false → SameAt j
  completed_same j at none =
      let own = own_completes s e said j ok at in
      undone j
      (ap (done_part free i k j) own.stands
      ∙ by_test (is_child j i)
      (λ below.
      let not_done : (is_child j i && own.behind.task == k && done t j own.behind) ≡ false =
      ap (λ o. is_some_and o (λ (x : ItemPart). is_child j i && x.task == k && done t j x)) (sym own.stands)
      ∙ ap (λ o. is_some_and o (λ l. is_some_and (item_part t l) (λ (x : ItemPart). is_child l i && x.task == k && done t l x))) (sym at) ∙ none in
      is_finished free i k j own.behind own.over
      ∙ ap (λ b. if b then Some own.behind else None) (ap (λ b. is_child j i && own.behind.task == k && b) (sym (its_count j own below)) ∙ not_done))
      (λ out. not_below free i k j (Some own.behind) out))
      (ap (done_part free i k j) own.stood ∙ not_finished free i k j own.before own.at_work)

-- the same is done where an event is done that completes nothing, and makes nothing there
module _ {reader : Reader} (s : State) (said : Said) (i : Ident) (well : IsWell reader s) (free : Ident → Bool) (k : ℕ) where
  own_same : (e : Event) (now : CountsBy free (after s e said) i) (is : is_plain_event e ≡ true) (ok : Allowed s e said)
      (has : is_some (net_part (after s e said) i) ≡ true) (old : anew_or_left e i ≡ false) (q : Ident)
      → list_any (same q) (made_by e) ≡ false → is_some_and (done_at e) (same q) ≡ true → completes_done (after s e said) e i k ≡ false
      → SameAt s e said i well free now is ok has old k q
  unfolding after allows
  own_same (events.Enter j name places first count) now is ok has old q new here none =
      let (x, found, may) = there_and (task_at s j name) _ (and_right _ _ ok.0) in
      let many = and_left _ _ (and_right _ _ (and_left _ _ may)) in
      by_item s (events.Enter j name places first count) said i well free now is ok has old k q
      (ap (λ o. item_part (where_some o s (enter s j places first)) q) found
      ∙ site-item q (take s j (unwrap_or (place_numbers x.within.net places) [])) (enter s j places first x) (enter-same q s j places first count x many new)
      ∙ net-item q s j _)
  own_same (events.Add j name value n) now is ok has old q new here none =
      by_item s (events.Add j name value n) said i well free now is ok has old k q
      (site-item q s (after s (events.Add j name value n) said) (added-same q s j name value n new))
  own_same (events.Exit j name places) now is ok has old q new here none =
      by_item s (events.Exit j name places) said i well free now is ok has old k q
      (subst (λ l. item_part (where_some (task_at s l name) s (exit s l places)) q ≡ item_part s q) (is_same q j here)
      (some-item q (λ o. o ≡ item_part s q) (task_at s q name) s (exit s q places) refl (λ x. exit-item q s places x)))
  own_same (events.Start j who) now is ok has old q new here none =
      let (x, found, may) = there_and (item_at s j) _ (and_right _ _ ok.0) in
      let at : q ≡ j = is_same q j here in
      undone s (events.Start j who) said i well free now is ok has old k q
      (ap (λ l. done_part free i k q (item_part (change s l (with_item (begun (Some who)))) q)) (sym at)
      ∙ ap (done_part free i k q) (own-item q s (begun (Some who)) (with_item (begun (Some who))) (λ y. refl)
      ∙ ap (option_map (begun (Some who))) (ap (item_part s) at ∙ part_of s j x found))
      ∙ begun_undone s (events.Start j who) said i well free now is ok has old k q (Some who) x.part)
      (ready_undone s (events.Start j who) said i well free now is ok has old k q x (ap (item_at s) at ∙ found) (and_left _ _ may))
  own_same (events.StartSub j) now is ok has old q new here none =
      let (x, found, may) = there_and (item_at s j) _ (and_right _ _ ok.0) in
      let at : q ≡ j = is_same q j here in
      let before = ready_undone s (events.StartSub j) said i well free now is ok has old k q x (ap (item_at s) at ∙ found) (and_left _ _ may) in
      let Undone : Option ItemPart → Type 0 = λ o. done_part free i k q o ≡ None in
      undone s (events.StartSub j) said i well free now is ok has old k q
      (ap (λ l. done_part free i k q (item_part (where_some (item_at s l) s (start_sub s l)) q)) (sym at)
      ∙ some-item q Undone (item_at s q) s (start_sub s q) before (λ y.
      started-item q Undone s y before
      (ap (λ o. done_part free i k q (option_map (begun y.part.who) o)) (ap (item_part s) at ∙ part_of s j x found)
      ∙ begun_undone s (events.StartSub j) said i well free now is ok has old k q y.part.who x.part)))
      before
  own_same (events.Complete j out) now is ok has old q new here none =
      subst (SameAt s (events.Complete j out) said i well free now is ok has old k) (sym (is_same q j here))
      (completed_same s (events.Complete j out) said i well free now is ok has old k j refl none)
  own_same (events.CompleteSub j) now is ok has old q new here none =
      subst (SameAt s (events.CompleteSub j) said i well free now is ok has old k) (sym (is_same q j here))
      (completed_same s (events.CompleteSub j) said i well free now is ok has old k j refl none)
  own_same (events.CompleteEmpty j) now is ok has old q new here none =
      subst (SameAt s (events.CompleteEmpty j) said i well free now is ok has old k) (sym (is_same q j here))
      (completed_same s (events.CompleteEmpty j) said i well free now is ok has old k j refl none)
  own_same e now is ok has old q new here none = never here

module _ {reader : Reader} (s : State) (e : Event) (said : Said) (i : Ident) (well : IsWell reader s) (free : Ident → Bool)
    (now : CountsBy free (after s e said) i) (is : is_plain_event e ≡ true) (ok : Allowed s e said)
    (has : is_some (net_part (after s e said) i) ≡ true) (old : anew_or_left e i ≡ false) (k : ℕ) where
  all_same : completes_done (after s e said) e i k ≡ false → (q : Ident) → SameAt s e said i well free now is ok has old k q
  all_same none q =
      by_test (is_child q i)
      (λ below.
      by_test (list_any (same q) (made_by e))
      (λ made. made_same s e said i well free now is ok has old k q below made)
      (λ new.
      by_test (is_some_and (done_at e) (same q))
      (λ here. own_same s said i well free k e now is ok has old q new here none)
      (λ other. elsewhere s e said i well free now is ok has old k q below other)))
      (λ out. outside s e said i well free now is ok has old k q out)

  one_done : CountsBy free s i → completes_done (after s e said) e i k ≡ true → done_in (after s e said) i k ≡ suc (done_in s i k)
  one_done before some =
      let (j, at, both) = there_and (completed_by e) _ some in
      let (y, item, counts) = there_and (item_part (after s e said) j) _ both in
      let parts = and_parts (is_child j i && y.task == k) _ counts in
      let below = (and_parts (is_child j i) _ parts.0).0 in
      let own = own_completes s e said j ok at in
      let same_item : y ≡ own.behind = some_same y own.behind (sym item ∙ own.stands) in
      let counted : (is_child j i && own.behind.task == k && free j) ≡ true =
      ap (λ b. is_child j i && own.behind.task == k && b) (sym (its_count s e said i well free now is ok has old k j own below))
      ∙ ap (λ (x : ItemPart). is_child j i && x.task == k && done (after s e said) j x) (sym same_item) ∙ counts in
      one_more free i k s (after s e said) before now j own.behind
      (by_part free i k j (get s.sites j) ∙ ap (done_part free i k j) own.stood ∙ not_finished free i k j own.before own.at_work)
      (by_part free i k j (get (after s e said).sites j) ∙ ap (done_part free i k j) own.stands ∙ is_finished free i k j own.behind own.over
      ∙ ap (λ b. if b then Some own.behind else None) counted)
      (λ l apart.
      by_test (is_child l i)
      (λ lies. elsewhere s e said i well free now is ok has old k l lies
      (ap (λ o. is_some_and o (same l)) (completed_is_done e j at)
      ∙ false_from_ne_true (same l j) (λ here. never (sym apart ∙ ap (λ q. eq_by_cmp lexical q j) (is_same l j here) ∙ tied_self by_name j))))
      (λ out. outside s e said i well free now is ok has old k l out))

  followed : CountsBy free s i → done_in (after s e said) i k ≡ done_in s i k + cond (completes_done (after s e said) e i k) 1 0
  followed before =
      by_test (completes_done (after s e said) e i k)
      (λ some. let more = one_done before some in let one = ap {B = ℕ} (λ b. cond b 1 0) some in omega (arith, more, one))
      (λ none.
      let same = as_many free i k s (after s e said) before now (all_same none) in
      let zero = ap {B = ℕ} (λ b. cond b 1 0) none in omega (arith, same, zero))

-- where a task of the net exits
exit_counts : (s : State) (e : Event) (said : Said) (i : Ident) (free : Ident → Bool) → CountsBy free s i → CountsBy free (after s e said) i
    → Allowed s e said → is_left e i ≡ true → CountsBehind s (after s e said) e i
unfolding allows
exit_counts s (events.Exit j name places) said i free before now ok here =
    let (x, found, may) = there_and (task_at s j name) _ (and_right _ _ ok.0) in
    let e : Event = events.Exit j name places in
    let is = is_same i j here in
    let counts : CountsBehind s (after s e said) e j = record {
      stood = net_of_task s j name x found;
      as_many =
          λ k. elim (none_or_same s j name places said ok x found free (subst (CountsBy free s) is before) (subst (CountsBy free (after s e said)) is now) k) [
            | inl none ↦ inr (same_itself j, none)
            | inr same_count ↦ inl (same_count ∙ sym (add-zero (done_in s j k)))
          ];
    } in subst (λ (l : Ident). CountsBehind s (after s e said) e l) (sym is) counts
exit_counts s e said i free before now ok here = never here

-- behind an event of neither a rule tree nor an exlet
pub plain_counts : {reader : Reader} (s : State) (e : Event) (said : Said) (i : Ident) (free : Ident → Bool) → IsWell reader s → CountsBy free s i
    → CountsBy free (after s e said) i → is_plain_event e ≡ true → Allowed s e said → is_some (net_part (after s e said) i) ≡ true → is_anew e i ≡ false
    → CountsBehind s (after s e said) e i
plain_counts s e said i free well before now is ok has old =
    by_test (is_left e i)
    (λ exits. exit_counts s e said i free before now ok exits)
    (λ stays.
    let unchanged = neither e i old stays in
    record { stood = stood s e said i well is ok has unchanged; as_many = λ k. inl (followed s e said i well free now is ok has unchanged k before) })
