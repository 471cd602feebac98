-- Behind an event of neither a rule tree nor an exlet an item that stood is as busy as before, and suspended as before. So one that is completed is done
-- unless it was busy or suspended before.
use Rattle.std.specs.Prelude.{◌≡◌, ◌&&◌, ◌||◌, Bool, true, false, not, [], ◌∷◌, Option, Some, None, is_some, option_and_then, refl, if◌then◌else◌}
use Rattle.std.specs.List.{list_any}
use Rattle.std.proofs.Common.{sym, ◌∙◌, ap, inl, inr}
use Rattle.std.proofs.lemmas.Bool.{and_from, false_from_ne_true}
use Rattle.yw_base.specs.Identity.{parent, under}
use Rattle.yw_idle.proofs.Goes.{goes_up}
use Rattle.yw_idle.proofs.Held.{mark_there, not_made}
use Rattle.yw_idle.proofs.Parts.{is_run_of, marks}
use Rattle.yw_idle.proofs.Runs.{busy_same, run_there}
use Rattle.yw_idle.specs.Warms.{changes, makes}
use Rattle.yw_moved.proofs.Parents.{is_same, itself_or_above, not_under_child, parent_of_child}
use Rattle.yw_moved.specs.Moved.{made_by}
use Rattle.yw_plain.specs.Plain.{is_plain_event}
use Rattle.yw_progress.proofs.Counting.{CountsBy}
use Rattle.yw_progress.proofs.Items.{item_among}
use Rattle.yw_progress.proofs.Staying.{launch_top, launches, made_lacks}
use Rattle.yw_state.proofs.Clear.{some_stands}
use Rattle.yw_state.proofs.Entries.{passing}
use Rattle.yw_state.proofs.Gone.{removed-gone}
use Rattle.yw_state.proofs.Tests.{and_left, and_right, by_test, is_not, never, nowhere, then_some, there, there_and}
use Rattle.yw_state.specs.Allowed.{Allowed, allows}
use Rattle.yw_state.specs.Events.{after}
use Rattle.yw_state.specs.Gone.{exit_removes, removes, under_item}
use Rattle.yw_state.specs.Identity.{Ident, is_child, same}
use Rattle.yw_state.specs.Map.{get}
use Rattle.yw_state.specs.State.{State, Site, ItemPart, is_suspended, item_part, items_of, run_part, task_at}
use Rattle.yw_state.specs.Texts.{Reader, Said}
use Rattle.yw_state.specs.Well.{IsWell, is_drawn}
use Rattle.yw_state.specs.Words.{busy, clear, is_completed}
use Rattle.yw_state.specs.declared.event.Event.{Event}
use Rattle.yw_state.specs.declared.event.Event.TheVariants as events

-- neither busy nor suspended
abbrev pub is_free : State → Ident → Bool
is_free s q = not (busy s q) && not (is_suspended s q)

regrouped : (a b c : Bool) → (a && b && c) ≡ (a && (b && c))
regrouped true b c = refl
regrouped false b c = refl

pub counts_now : (s : State) (i : Ident) → CountsBy (is_free s) s i
counts_now s i q x below at = regrouped (is_completed x.stage) (not (busy s q)) (not (is_suspended s q))

-- ---- the events of neither a rule tree nor an exlet

plain_makes : (e : Event) → is_plain_event e ≡ true → makes e ≡ made_by e
plain_makes (events.Except j check node n) is = never is
plain_makes (events.Raise j kind node n) is = never is
plain_makes e is = refl

plain_marks : (e : Event) → is_plain_event e ≡ true → marks e ≡ false
plain_marks (events.Suspend j) is = never is
plain_marks (events.Continue j) is = never is
plain_marks (events.Prim r p) is = never is
plain_marks e is = refl

plain_runs : (e : Event) (k : Ident) → is_plain_event e ≡ true → is_run_of e k ≡ false
plain_runs (events.Prim r p) k is = never is
plain_runs (events.Compensated r) k is = never is
plain_runs e k is = refl

-- ---- what stands directly below an item

module _ {reader : Reader} (s : State) (well : IsWell reader s) where
  -- a run that goes as the item at q stays: none does
  run_goes : (e : Event) (said : Said) (q r : Ident) → is_plain_event e ≡ true → Allowed s e said → is_some (run_part s r) ≡ true → is_child r q ≡ true
      → list_any (same q) (changes e) ≡ true → removes s e r ≡ true → busy s q ≡ true → ⊥
  unfolding removes allows
  run_goes (events.Exit i t places) said q r is ok run below here gone some =
      let at : q ≡ i = is_same q i (only _ here) in
      let (x, found, of_some) = there_and (task_at s i t) (exit_removes s i r) gone in
      let (n, of_task, among) = passing (under_item s i r) (x.number ∷ x.task.drop_tasks) of_some in
      let (y, item, lies) = passing (λ (y : Ident × ItemPart). under r y.0) (items_of s i n) among in
      let its = item_among s i n y item in
      elim (itself_or_above r y.0 lies) [
        | inl is_it ↦
            never (sym (well.parents.not_both r (ap (λ l. is_some (item_part s l)) is_it ∙ ap is_some its.1)) ∙ run)
        | inr above ↦
            never (sym (not_under_child y.0 i its.0) ∙ ap (λ l. under l y.0) (sym (parent_of_child r q below ∙ at)) ∙ above)
      ]
    where
      only : (b : Bool) → (b || false) ≡ true → b ≡ true
      only true e = refl
      only false e = e
  run_goes (events.CompleteSub j) said q r is ok run below here gone some =
      let at : q ≡ j = is_same q j (only _ here) in
      never (sym (is_not (busy s j) (and_right (clear s j) _ (and_left _ _ (and_left _ _ ok.0)))) ∙ ap (busy s) (sym at) ∙ some)
    where
      only : (b : Bool) → (b || false) ≡ true → b ≡ true
      only true e = refl
      only false e = e
  run_goes (events.CompleteWorklet j) said q r is ok run below here gone some = never is
  run_goes (events.Prim p primitive) said q r is ok run below here gone some = never is
  run_goes (events.Compensated p) said q r is ok run below here gone some = never is
  run_goes (events.Finish n) said q r is ok run below here gone some = never here
  run_goes (events.Cancel n) said q r is ok run below here gone some = never here
  run_goes e said q r is ok run below here gone some = never gone

module _ {reader : Reader} (s : State) (e : Event) (said : Said) (well : IsWell reader s) (is : is_plain_event e ≡ true) (ok : Allowed s e said) where
  abbrev t : State
  t = after s e said

  run_drawn : (r : Ident) → is_some (run_part s r) ≡ true → is_drawn s r ≡ true
  run_drawn r some =
      let (y, run) = there (run_part s r) some in
      let (x, stands, its) = then_some (λ (x : Site). x.run) (get s.sites r) y run in well.numbers.drawn r x stands

  -- no run is made
  not_run_made : (r q : Ident) → parent r ≡ q → (q ≡ [] → ⊥) → is_some (run_part t r) ≡ true → list_any (same r) (makes e) ≡ false
  not_run_made r q up some has =
      false_from_ne_true _ (λ made.
      let made_too : list_any (same r) (made_by e) ≡ true = ap (list_any (same r)) (sym (plain_makes e is)) ∙ made in
      let begins : launches e ≡ false = false_from_ne_true _ (λ launch. some (sym up ∙ launch_top e r launch made_too)) in
      never (sym (ap is_some (made_lacks (λ x. x.run) (λ n given due. refl) r s e said well.numbers ok begins made_too)) ∙ has))

  module _ (q : Ident) (top : q ≡ [] → ⊥) (stays : removes s e q ≡ false) where
    run_stays : (r : Ident) → is_child r q ≡ true → is_some (run_part s r) ≡ true → removes s e r ≡ false
    run_stays r below run =
        let up = parent_of_child r q below in
        let (y, its) = there (run_part s r) run in
        let (x, stands, at) = then_some (λ (x : Site). x.run) (get s.sites r) y its in
        let some : busy s q ≡ true = some_stands s (λ p z. is_some z.run && is_child p q) r x stands (and_from _ _ (ap is_some at) below) in
        false_from_ne_true _ (λ gone. elim (goes_up s e r (λ none. top (sym up ∙ none)) gone) [
          | inl too ↦ never (sym stays ∙ ap (removes s e) (sym up) ∙ too)
          | inr here ↦ run_goes s well e said q r is ok run below (ap (λ l. list_any (same l) (changes e)) (sym up) ∙ here) gone some
        ])

    run_same : (r : Ident) → is_child r q ≡ true → is_some (run_part t r) ≡ is_some (run_part s r)
    run_same r below =
        let up = parent_of_child r q below in
        by_test (is_some (run_part s r))
        (λ run. run_there s e said r ok (run_stays r below run) (not_made s r (run_drawn r run) e said ok) (plain_runs e r is))
        (λ none. false_from_ne_true _ (λ has.
        let kept : removes s e r ≡ false =
        false_from_ne_true _ (λ gone. never (sym (ap (λ o. is_some (option_and_then (λ (x : Site). x.run) o)) (removed-gone r s e said ok gone)) ∙ has)) in
        never (sym none ∙ sym (run_there s e said r ok kept (not_run_made r q up top has) (plain_runs e r is)) ∙ has)) ∙ sym none)

    pub busy_kept : busy t q ≡ busy s q
    busy_kept = busy_same s t q run_same

  -- ---- an item that is completed behind the event

  abbrev over_there : Site → Option ItemPart
  over_there x = option_and_then (λ (p : ItemPart). if is_completed p.stage then Some p else None) x.item

  module _ (i : Ident) (top : i ≡ [] → ⊥) (q : Ident) (x : ItemPart) (below : is_child q i ≡ true) (at : item_part t q ≡ Some x)
      (over : is_completed x.stage ≡ true) where
    stays_there : removes s e q ≡ false
    stays_there = false_from_ne_true _ (λ gone. nowhere (sym (ap (option_and_then (λ (y : Site). y.item)) (removed-gone q s e said ok gone)) ∙ at))

    over_is : option_and_then over_there (get t.sites q) ≡ Some x
    over_is = by_site (get t.sites q) at
      where
        by_site : (o : Option Site) → option_and_then (λ (y : Site). y.item) o ≡ Some x → option_and_then over_there o ≡ Some x
        by_site None none = nowhere none
        by_site (Some y) item =
            ap (option_and_then (λ (p : ItemPart). if is_completed p.stage then Some p else None)) item ∙ ap (λ b. if b then Some x else None) over

    new_there : list_any (same q) (makes e) ≡ false
    new_there =
        false_from_ne_true _ (λ made.
        let made_too : list_any (same q) (made_by e) ≡ true = ap (list_any (same q)) (sym (plain_makes e is)) ∙ made in
        let begins : launches e ≡ false =
        false_from_ne_true _ (λ launch. top (sym (parent_of_child q i below) ∙ launch_top e q launch made_too)) in
        nowhere (sym (made_lacks over_there (λ n given due. refl) q s e said well.numbers ok begins made_too) ∙ over_is))

    not_top : q ≡ [] → ⊥
    not_top none = top (sym (parent_of_child q i below) ∙ ap parent none)

    free_kept : is_free t q ≡ is_free s q
    free_kept =
        ap (λ b. not b && not (is_suspended t q)) (busy_kept q not_top stays_there)
        ∙ ap (λ b. not (busy s q) && not b) (mark_there s e said q ok (plain_marks e is) stays_there new_there (plain_runs e q is))

  pub counts_then : (i : Ident) → (i ≡ [] → ⊥) → CountsBy (is_free s) t i
  counts_then i top q x below at =
      counts_now t i q x below at
      ∙ by_test (is_completed x.stage)
      (λ over. ap (λ b. is_completed x.stage && b) (free_kept i top q x below at over))
      (λ on. ap (λ b. b && is_free t q) on ∙ sym (ap (λ b. b && is_free s q) on))
