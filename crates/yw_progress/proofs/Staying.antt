-- A net that stands behind an event, and neither begins nor ends by it nor is left by a task, stood before; and what lies directly below it stays.
use Rattle.std.specs.List.{All, list_any}
use Rattle.std.specs.Prelude.{◌≡◌, ◌||◌, ℕ, Bool, true, false, not, List, [], ◌∷◌, Option, Some, None, is_some, option_and_then, unwrap_or}
use Rattle.std.proofs.Common.{sym, ◌∙◌, ap, inl, inr, subst}
use Rattle.std.proofs.lemmas.Bool.{and_from, and_parts, false_from_ne_true}
use Rattle.std.proofs.lemmas.List.Elements.{All-head, All-tail}
use Rattle.yw_base.specs.Identity.{is_identity, under, parent}
use Rattle.yw_moved.proofs.Above.{made_undrawn}
use Rattle.yw_moved.proofs.Parents.{is_same, itself_or_above, parent_of_child, same_itself}
use Rattle.yw_moved.proofs.Sites.{left_alone}
use Rattle.yw_moved.specs.Moved.{done_at, made_by}
use Rattle.yw_plain.specs.Plain.{is_plain_event}
use Rattle.yw_progress.proofs.Changing.{items-lack}
use Rattle.yw_progress.specs.Progress.{is_anew, is_left}
use Rattle.yw_state.proofs.Absent.{change-keeps, part-kept}
use Rattle.yw_state.proofs.Elsewhere.{children}
use Rattle.yw_state.proofs.Entries.{IsIn, passes, passing}
use Rattle.yw_state.proofs.Gone.{removed-gone}
use Rattle.yw_state.proofs.Tests.{and_left, and_right, by_option, by_test, never, then_some, there, there_and}
use Rattle.yw_state.specs.After.{change, complete, completed, new_item, take, where_some, with_item}
use Rattle.yw_state.specs.Allowed.{Allowed, allows, place_numbers}
use Rattle.yw_state.specs.Events.{after}
use Rattle.yw_state.specs.Gone.{exit_removes, removes, under_item}
use Rattle.yw_state.specs.Identity.{Ident, case_ident, is_child, same}
use Rattle.yw_state.specs.Map.{get}
use Rattle.yw_state.specs.Options.{is_some_and}
use Rattle.yw_state.specs.Passing.{entry_values, given_values}
use Rattle.yw_state.specs.State.{State, Site, ItemPart, TaskAt, item_at, items_of, net_at, net_part, task_at}
use Rattle.yw_state.specs.Texts.{Reader, Said}
use Rattle.yw_state.specs.Values.{Row}
use Rattle.yw_state.specs.Well.{IsWell, NumbersFit, is_drawn}
use Rattle.yw_state.specs.declared.event.Event.{Event}
use Rattle.yw_state.specs.declared.event.Event.TheVariants as events
use Rattle.yw_state.specs.declared.part.Checks.{Checks}

-- the net at i begins, ends, or is left by a task
abbrev pub anew_or_left : Event → Ident → Bool
anew_or_left (events.Launch n spec vals) i = same i (case_ident n)
anew_or_left (events.Exit j t places) i = same i j
anew_or_left (events.StartSub j) i = same i j
anew_or_left (events.CompleteSub j) i = same i j
anew_or_left e i = false

pub neither : (e : Event) (i : Ident) → is_anew e i ≡ false → is_left e i ≡ false → anew_or_left e i ≡ false
neither (events.Launch n spec vals) i old stays = old
neither (events.Exit j t places) i old stays = stays
neither (events.StartSub j) i old stays = old
neither (events.CompleteSub j) i old stays = old
neither e i old stays = ap (λ (b : Bool). b) old

-- ---- what an event makes

-- a case begins by it
abbrev pub launches : Event → Bool
launches (events.Launch n spec vals) = true
launches e = false

launch_anew : (e : Event) (i : Ident) → launches e ≡ true → list_any (same i) (made_by e) ≡ true → anew_or_left e i ≡ true
launch_anew (events.Launch n spec vals) i is made = by_test (same i (case_ident n)) (λ here. here) (λ other. never (sym (ap (λ b. b || false) other) ∙ made))
launch_anew e i is made = never is

pub launch_top : (e : Event) (q : Ident) → launches e ≡ true → list_any (same q) (made_by e) ≡ true → parent q ≡ []
launch_top (events.Launch n spec vals) q is made =
    by_test (same q (case_ident n)) (λ here. ap parent (is_same q (case_ident n) here)) (λ other. never (sym (ap (λ b. b || false) other) ∙ made))
launch_top e q is made = never is

-- where a number isn't drawn, nothing stands
pub undrawn_gone : (s : State) (k : Ident) → NumbersFit s → is_drawn s k ≡ false → get s.sites k ≡ None
undrawn_gone s k fits out = by_option (get s.sites k) (λ none. none) (λ x stands. never (sym out ∙ fits.drawn k x stands))

module _ {A : Type 0} (part : Site → Option A) (new : (n : ℕ) (given : Row) (due : Checks) → part (new_item n given due) ≡ None) (k : Ident) where
  abbrev LacksIn : State → Type 0
  LacksIn s = option_and_then part (get s.sites k) ≡ None

  some-lacks : {B : Type 0} (o : Option B) (s : State) (f : B → State) → LacksIn s → ((x : B) → LacksIn (f x)) → LacksIn (where_some o s f)
  some-lacks None s f none each = none
  some-lacks (Some x) s f none each = each x

  -- an item that comes lacks what no item has as it comes
  pub made_lacks : (s : State) (e : Event) (said : Said) → NumbersFit s → Allowed s e said → launches e ≡ false → list_any (same k) (made_by e) ≡ true
      → LacksIn (after s e said)
  unfolding after
  made_lacks s (events.Launch n name vals) said fits ok is made = never (sym is)
  made_lacks s (events.Enter i t places first count) said fits ok is made =
      let gone = undrawn_gone s k fits (made_undrawn s (events.Enter i t places first count) said k ok made) in
      some-lacks (task_at s i t) s _ (ap (option_and_then part) gone) (λ x.
      items-lack k part new x i first (unwrap_or (entry_values x.task x.within.part.vals) []) (take s i (unwrap_or (place_numbers x.within.net places) []))
      (ap (option_and_then part) (change-keeps k s i _ gone)))
  made_lacks s (events.Add i t value n) said fits ok is made =
      let none = ap (option_and_then part) (undrawn_gone s k fits (made_undrawn s (events.Add i t value n) said k ok made)) in
      some-lacks (task_at s i t) s _ none (λ x.
      some-lacks (given_values x.task x.within.part.vals (Some value)) s _ none (λ given. items-lack k part new x i n (given ∷ []) s none))
  made_lacks s e said fits ok is made = never made

-- ---- the net

pub net_of_task : (s : State) (i : Ident) (t : List ℕ) (x : TaskAt) → task_at s i t ≡ Some x → is_some (net_part s i) ≡ true
net_of_task s i t x is =
    let (n, found, of_name) = then_some _ (net_at s i) x is in
    let (m, has, of_spec) = then_some _ (net_part s i) n found in ap is_some has

module _ (s : State) (i : Ident) where
  abbrev SameNet : State → Type 0
  SameNet t = net_part t i ≡ net_part s i

  change-net : (u : State) (j : Ident) (f : Site → Site) → ((x : Site) → (f x).net ≡ x.net) → SameNet u → SameNet (change u j f)
  change-net u j f leaves same = part-kept (λ x. x.net) f leaves u.sites j i ∙ same

  some-net : {A : Type 0} (o : Option A) (f : A → State) → ((x : A) → SameNet (f x)) → SameNet (where_some o s f)
  some-net None f each = ap (λ o. o) (λ j. net_part s i)
  some-net (Some x) f each = each x

  -- where an event is done that neither begins nor ends the net nor leaves a task of it
  own_stood : (e : Event) (said : Said) → Allowed s e said → is_some (net_part (after s e said) i) ≡ true → anew_or_left e i ≡ false
      → is_some_and (done_at e) (same i) ≡ true → is_some (net_part s i) ≡ true
  unfolding after allows
  own_stood (events.Enter j t places first count) said ok has old here =
      let (x, found, may) = there_and (task_at s j t) _ (and_right _ _ ok.0) in
      ap (λ k. is_some (net_part s k)) (is_same i j here) ∙ net_of_task s j t x found
  own_stood (events.Add j t value n) said ok has old here =
      let (x, found, may) = there_and (task_at s j t) _ (and_right _ _ (and_left _ _ ok.0)) in
      ap (λ k. is_some (net_part s k)) (is_same i j here) ∙ net_of_task s j t x found
  own_stood (events.Start j who) said ok has old here = ap is_some (sym (change-net s j _ (λ x. ap (λ o. o) (λ k. x.net)) (λ k. net_part s i))) ∙ has
  own_stood (events.Complete j out) said ok has old here =
      ap is_some (sym (some-net (item_at s j) (complete s j out) (λ x.
      change-net (change s j (with_item (completed out))) j _ (λ y. (λ k. y.net)) (change-net s j _ (λ y. (λ k. y.net)) (λ k. net_part s i)))))
      ∙ has
  own_stood (events.CompleteEmpty j) said ok has old here = ap is_some (sym (change-net s j _ (λ x. (λ k. x.net)) (λ k. net_part s i))) ∙ has
  own_stood (events.Exit j t places) said ok has old here = never (sym old ∙ here)
  own_stood (events.StartSub j) said ok has old here = never (sym old ∙ here)
  own_stood (events.CompleteSub j) said ok has old here = never (sym old ∙ here)
  own_stood e said ok has old here = never here

in_all : {A : Type 0} (P : A → Type 0) (xs : List A) (x : A) → All P xs → IsIn xs x → P x
in_all P [] x each within = absurd within
in_all P (y ∷ ys) x each (inl same) = subst P same (All-head P y ys each)
in_all P (y ∷ ys) x each (inr rest) = in_all P ys x (All-tail P y ys each) rest

-- what lies directly below a net that stays, and is left by no task, isn't removed
child_goes : (s : State) (e : Event) (i q : Ident) → parent q ≡ i → is_plain_event e ≡ true → removes s e q ≡ true → removes s e i ≡ false
    → anew_or_left e i ≡ false → ¬ (i ≡ []) → ⊥
unfolding removes
child_goes s (events.Exit j t places) i q up is gone stays old some =
    let (x, found, of_some) = there_and (task_at s j t) (exit_removes s j q) gone in
    let (n, of_task, among) = passing (under_item s j q) (x.number ∷ x.task.drop_tasks) of_some in
    let (y, item, lies) = passing (λ (y : Ident × ItemPart). under q y.0) (items_of s j n) among in
    let below = in_all (λ (y : Ident × ItemPart). is_child y.0 j ≡ true) (items_of s j n) y (children s j n) item in
    elim (itself_or_above q y.0 lies) [
      | inl at ↦ never (sym old ∙ ap (λ k. same k j) (sym up ∙ ap parent at ∙ parent_of_child y.0 j below) ∙ same_itself j)
      | inr above ↦ never (sym stays
          ∙ ap (λ o. is_some_and o (exit_removes s j i)) found
          ∙ passes (under_item s j i) (x.number ∷ x.task.drop_tasks) n of_task
          (passes (λ (z : Ident × ItemPart). under i z.0) (items_of s j n) y item (ap (λ k. under k y.0) (sym up) ∙ above)))
    ]
child_goes s (events.Finish n) i q up is gone stays old some =
    elim (itself_or_above q (case_ident n) gone) [
      | inl at ↦ absurd (some (sym up ∙ ap parent at))
      | inr above ↦ never (sym stays ∙ ap (λ k. under k (case_ident n)) (sym up) ∙ above)
    ]
child_goes s (events.Cancel n) i q up is gone stays old some =
    elim (itself_or_above q (case_ident n) gone) [
      | inl at ↦ absurd (some (sym up ∙ ap parent at))
      | inr above ↦ never (sym stays ∙ ap (λ k. under k (case_ident n)) (sym up) ∙ above)
    ]
child_goes s (events.CompleteSub j) i q up is gone stays old some =
    let parts = and_parts (under q j) (not (same q j)) gone in
    elim (itself_or_above q j parts.0) [
      | inl at ↦ never (sym (ap not (ap (λ k. same k j) at ∙ same_itself j)) ∙ parts.1)
      | inr above ↦ never (sym stays ∙ and_from (under i j) (not (same i j)) (ap (λ k. under k j) (sym up) ∙ above) (ap not old))
    ]
child_goes s (events.CompleteWorklet j) i q up is gone stays old some = never is
child_goes s (events.Prim r p) i q up is gone stays old some = never is
child_goes s (events.Compensated r) i q up is gone stays old some = never is
child_goes s e i q up is gone stays old some = never gone

module _ {reader : Reader} (s : State) (e : Event) (said : Said) (i : Ident) (well : IsWell reader s) (is : is_plain_event e ≡ true) (ok : Allowed s e said)
    (has : is_some (net_part (after s e said) i) ≡ true) (old : anew_or_left e i ≡ false) where
  stays : removes s e i ≡ false
  stays =
      false_from_ne_true _ (λ gone. never (sym (ap (λ o. is_some (option_and_then (λ (x : Site). x.net) o)) (removed-gone i s e said ok gone)) ∙ has))

  not_made : list_any (same i) (made_by e) ≡ false
  not_made = false_from_ne_true _ (λ made.
      by_test (launches e)
      (λ begins. never (sym old ∙ launch_anew e i begins made))
      (λ other. never (sym (ap is_some (made_lacks (λ x. x.net) (λ n given due. (λ k. None)) i s e said well.numbers ok other made)) ∙ has)))

  pub stood : is_some (net_part s i) ≡ true
  stood =
      by_test (is_some_and (done_at e) (same i))
      (λ here. own_stood s i e said ok has old here)
      (λ other. ap (λ o. is_some (option_and_then (λ (x : Site). x.net) o)) (sym (left_alone i s e said is ok stays other not_made)) ∙ has)

  not_top : ¬ (i ≡ [])
  not_top top =
      let (n, part) = there (net_part s i) stood in
      let (x, stands, of_net) = then_some (λ (x : Site). x.net) (get s.sites i) n part in
      never (ap is_identity (sym top) ∙ well.numbers.identities i x stands)

  module _ (q : Ident) (below : is_child q i ≡ true) where
    pub child_stays : removes s e q ≡ false
    child_stays = false_from_ne_true _ (λ gone. child_goes s e i q (parent_of_child q i below) is gone stays old not_top)

    -- no case begins there
    pub not_launched : list_any (same q) (made_by e) ≡ true → launches e ≡ false
    not_launched made = false_from_ne_true _ (λ begins. not_top (sym (parent_of_child q i below) ∙ launch_top e q begins made))
