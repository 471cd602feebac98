-- What an event leaves as it was: all but where it is done, what it makes and what it removes.
use Rattle.std.specs.Prelude.{◌≡◌, ℕ, ◌==◌, Bool, true, false, List, [], ◌∷◌, length, map, fold, Option, Some, None, unwrap_or, refl}
use Rattle.std.specs.List.{list_any, range_with_len, zip}
use Rattle.std.proofs.Common.{◌∙◌, ap}
use Rattle.std.proofs.lemmas.Bool.{eqb-true, or_parts}
use Rattle.yw_base.specs.declared.value.Value.{Value}
use Rattle.yw_kept.proofs.Staying.{others_stay}
use Rattle.yw_moved.proofs.Parents.{apart}
use Rattle.yw_moved.specs.Moved.{done_at, made_by}
use Rattle.yw_plain.specs.Plain.{is_plain_event}
use Rattle.yw_spec.specs.declared.spec.Place.{Place}
use Rattle.yw_state.proofs.Apart.{leaves_cases}
use Rattle.yw_state.proofs.MapLemmas.{by_name, get-insert_other, get-update_other}
use Rattle.yw_state.proofs.Tests.{and_left, and_right, never}
use Rattle.yw_state.specs.After.{add, add_item, add_items, change, complete, completed, enter, new_item, put, take, where_some, with_item}
use Rattle.yw_state.specs.Allowed.{Allowed, allows, place_numbers}
use Rattle.yw_state.specs.Events.{after}
use Rattle.yw_state.specs.Gone.{removes}
use Rattle.yw_state.specs.Identity.{Ident, case_ident, same}
use Rattle.yw_base.specs.Identity.{child}
use Rattle.yw_state.specs.Map.{get}
use Rattle.yw_state.specs.Options.{is_some_and}
use Rattle.yw_state.specs.Passing.{entry_values, given_values}
use Rattle.yw_state.specs.State.{State, Site, ItemAt, TaskAt, item_at, spec_called, task_at, top_called}
use Rattle.yw_state.specs.Texts.{Said}
use Rattle.yw_state.specs.Values.{Row}
use Rattle.yw_state.specs.declared.event.Event.{Event}
use Rattle.yw_state.specs.declared.event.Event.TheVariants as events
use Rattle.yw_state.specs.declared.part.Checks.{Checks}

row_count : (o : Option (List Row)) (count : ℕ) → is_some_and o (λ rows. length rows == count) ≡ true → length (unwrap_or o []) ≡ count
row_count None count e = never e
row_count (Some rows) count e = eqb-true (length rows) count e

module _ (k : Ident) where
  -- the same stands at k
  abbrev Same : State → State → Type 0
  Same s t = get t.sites k ≡ get s.sites k

  change-same : (s : State) (j : Ident) (f : Site → Site) → same k j ≡ false → Same s (change s j f)
  change-same s j f other = get-update_other by_name s.sites j f k (apart k j other)

  put-same : (s : State) (j : Ident) (x : Site) → same k j ≡ false → Same s (put s j x)
  put-same s j x other = get-insert_other by_name s.sites j x k (apart k j other)

  some-same : {A : Type 0} (o : Option A) (s : State) (f : A → State) → ((x : A) → Same s (f x)) → Same s (where_some o s f)
  some-same None s f each = refl
  some-same (Some x) s f each = each x

  found-same : {A : Type 0} (o : Option A) (s : State) (f : A → State) (p : A → Bool)
      → is_some_and o p ≡ true → ((x : A) → p x ≡ true → Same s (f x)) → Same s (where_some o s f)
  found-same None s f p e each = refl
  found-same (Some x) s f p e each = each x e

  complete-same : (s : State) (j : Ident) (out : Row) (x : ItemAt) → same k j ≡ false → Same s (complete s j out x)
  complete-same s j out x other = change-same (change s j (with_item (completed out))) j _ other ∙ change-same s j _ other

  -- ---- items come, numbered from the first number on

  items-same : (x : TaskAt) (i : Ident) (due : Checks) (ns : List ℕ) (rows : List Row) (s : State)
      → list_any (same k) (map (child i) ns) ≡ false → Same s (fold (add_item x i due) s (zip ns rows))
  items-same x i due [] rows s other = refl
  items-same x i due (n ∷ ns) [] s other = refl
  items-same x i due (n ∷ ns) (given ∷ rows) s other =
      let parts = or_parts (same k (child i n)) (list_any (same k) (map (child i) ns)) other in
      items-same x i due ns rows (put s (child i n) (new_item x.number given due)) parts.1 ∙ put-same s (child i n) _ parts.0

  add_items-same : (x : TaskAt) (i : Ident) (first count : ℕ) (rows : List Row) (s : State)
      → length rows ≡ count → list_any (same k) (map (child i) (range_with_len first count)) ≡ false → Same s (add_items x i first rows s)
  add_items-same x i first count rows s long other =
      items-same x i _ (range_with_len first (length rows)) rows s
      (ap (λ n. list_any (same k) (map (child i) (range_with_len first n))) long ∙ other)

  -- beside the tokens that go
  pub enter-same : (s : State) (i : Ident) (places : List Place) (first count : ℕ) (x : TaskAt)
      → is_some_and (entry_values x.task x.within.part.vals) (λ rows. length rows == count) ≡ true
      → list_any (same k) (map (child i) (range_with_len first count)) ≡ false
      → Same (take s i (unwrap_or (place_numbers x.within.net places) [])) (enter s i places first x)
  enter-same s i places first count x many other =
      let taken : State = take s i (unwrap_or (place_numbers x.within.net places) []) in
      add_items-same x i first count _ taken (row_count (entry_values x.task x.within.part.vals) count many) other

  pub added-same : (s : State) (i : Ident) (t : List ℕ) (value : Value) (n : ℕ)
      → list_any (same k) (child i n ∷ []) ≡ false → Same s (where_some (task_at s i t) s (add s i value n))
  added-same s i t value n other =
      some-same (task_at s i t) s _ (λ x.
      some-same (given_values x.task x.within.part.vals (Some value)) s _ (λ given. add_items-same x i n 1 (given ∷ []) s refl other))

  -- ---- the events

  pub left_alone : (s : State) (e : Event) (said : Said) → is_plain_event e ≡ true → Allowed s e said
      → removes s e k ≡ false → is_some_and (done_at e) (same k) ≡ false → list_any (same k) (made_by e) ≡ false → Same s (after s e said)
  unfolding after allows
  left_alone s (events.Person name roles) said is ok stays other new = refl
  left_alone s (events.Load name text) said is ok stays other new = ap (λ m. get m k) (leaves_cases s (events.Load name text) said refl).sites
  left_alone s (events.Launch n name vals) said is ok stays other new =
      some-same (spec_called s name) s _ (λ spec. some-same (top_called s name) s _ (λ net. put-same s (case_ident n) _ (or_parts _ false new).0))
  left_alone s (events.Enter i t places first count) said is ok stays other new =
      found-same (task_at s i t) s _ _ (and_right _ _ ok.0) (λ x may.
      enter-same s i places first count x (and_left _ _ (and_right _ _ (and_left _ _ may))) new ∙ change-same s i _ other)
  left_alone s (events.Start j who) said is ok stays other new = change-same s j _ other
  left_alone s (events.Complete j out) said is ok stays other new = some-same (item_at s j) s _ (λ x. complete-same s j out x other)
  left_alone s (events.Exit i t places) said is ok stays other new = others_stay k s (events.Exit i t places) said refl stays other
  left_alone s (events.Add i t value n) said is ok stays other new = added-same s i t value n new
  left_alone s (events.Finish n) said is ok stays other new = others_stay k s (events.Finish n) said refl stays refl
  left_alone s (events.Cancel n) said is ok stays other new = others_stay k s (events.Cancel n) said refl stays refl
  left_alone s (events.StartSub j) said is ok stays other new =
      some-same (item_at s j) s _ (λ x. some-same _ s _ (λ e. change-same s j _ other))
  left_alone s (events.CompleteSub j) said is ok stays other new = others_stay k s (events.CompleteSub j) said refl stays other
  left_alone s (events.CompleteEmpty j) said is ok stays other new = change-same s j _ other
  left_alone s (events.Advance n) said is ok stays other new = refl
  left_alone s e said is ok stays other new = never is
