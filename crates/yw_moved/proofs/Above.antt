-- The net above an identity that stays is of the same specification and number behind an event, also where the event is done at that net.
use Rattle.std.specs.Prelude.{◌≡◌, ◌≤◌, ℕ, zero, suc, ◌+◌, ◌==◌, ◌&&◌, Bool, true, false, not, List, [], ◌∷◌, length, map, fold, nat_lt, Option, Some, None, option_map, option_and_then, unwrap_or, refl, if◌then◌else◌}
use Rattle.std.specs.List.{All, list_any, range_with_len}
use Rattle.std.proofs.Common.{sym, ◌∙◌, ap, subst, arith, inl, inr}
use Rattle.std.proofs.lemmas.Bool.{and_from, and_parts, and_right, false_from_ne_true, le-ltb}
use Rattle.std.proofs.lemmas.List.Elements.{All-head, All-tail}
use Rattle.std.proofs.lemmas.List.Folds.{list_all-append}
use Rattle.yw_base.specs.Identity.{under, child, parent}
use Rattle.yw_moved.proofs.Parents.{is_same, not_under_child, under_itself}
use Rattle.yw_moved.proofs.Sites.{added-same, enter-same, left_alone}
use Rattle.yw_moved.specs.Moved.{done_at, made_by}
use Rattle.yw_plain.specs.Plain.{is_plain_event}
use Rattle.yw_spec.specs.declared.spec.Place.{Place}
use Rattle.yw_state.proofs.Absent.{part-kept}
use Rattle.yw_state.proofs.Drawing.{first-drawn}
use Rattle.yw_state.proofs.Elsewhere.{children}
use Rattle.yw_state.proofs.MapLemmas.{by_name, get-retain_kept}
use Rattle.yw_state.proofs.Tests.{and_left, by_test, never, or_cases, there_and}
use Rattle.yw_state.proofs.Under.{all_parent, under_parent}
use Rattle.yw_state.specs.After.{change, complete, completed, enter, exit, idents, items_gone, make_due, produce, region_emptied, take, values_assigned, where_some, wipe, with_item, with_net, without_items}
use Rattle.yw_state.specs.Allowed.{Allowed, allows, place_numbers}
use Rattle.yw_state.specs.Events.{after}
use Rattle.yw_state.specs.Gone.{removes}
use Rattle.yw_state.specs.Identity.{Ident, is_child, same}
use Rattle.yw_state.specs.Judged.{case_place}
use Rattle.yw_state.specs.Map.{get}
use Rattle.yw_state.specs.Options.{is_some_and}
use Rattle.yw_state.specs.Passing.{entry_values}
use Rattle.yw_state.specs.State.{State, Site, Sites, ItemAt, ItemPart, NetPart, TaskAt, drop, drop_all, item_at, items_of, net_part, task_at}
use Rattle.yw_state.specs.Texts.{Said}
use Rattle.yw_state.specs.Values.{Row}
use Rattle.yw_state.specs.Well.{NumbersFit, NetsStand, Stands, is_drawn}
use Rattle.yw_state.specs.Words.{is_executing, is_ready}
use Rattle.yw_state.specs.declared.event.Event.{Event}
use Rattle.yw_state.specs.declared.event.Event.TheVariants as events
use Rattle.yw_state.specs.declared.part.Stage.{Stage}
use Rattle.yw_state.specs.declared.part.Stage.TheVariants.{Ready, Executing, Completed}
use Rattle.yw_state.specs.declared.tree.TreeKind.TheVariants.{Post}

-- a net's specification and number
abbrev pub kind : NetPart → List ℕ × ℕ
kind n = (n.spec, n.net)

abbrev pub kind_at : State → Ident → Option (List ℕ × ℕ)
kind_at s k = option_map kind (net_part s k)

-- as what stands there has it
kind_in : (o : Option Site) → option_map kind (option_and_then (λ (x : Site). x.net) o) ≡ option_and_then (λ (x : Site). option_map kind x.net) o
kind_in None = refl
kind_in (Some x) = refl

module _ (k : Ident) where
  abbrev SameKind : State → State → Type 0
  SameKind s t = kind_at t k ≡ kind_at s k

  site-kind : (s t : State) → get t.sites k ≡ get s.sites k → SameKind s t
  site-kind s t here = ap (λ o. option_map kind (option_and_then (λ (x : Site). x.net) o)) here

  -- nets are left
  change-kind : (s : State) (j : Ident) (f : Site → Site) → ((x : Site) → (f x).net ≡ x.net) → SameKind s (change s j f)
  change-kind s j f leaves = ap (option_map kind) (part-kept (λ x. x.net) f leaves s.sites j k)

  -- a net gets other values or tokens
  net-kind : (s : State) (i : Ident) (f : NetPart → NetPart) → ((n : NetPart) → kind (f n) ≡ kind n) → SameKind s (change s i (with_net f))
  net-kind s i f keeps =
      kind_in (get (change s i (with_net f)).sites k)
      ∙ part-kept (λ (x : Site). option_map kind x.net) (with_net f) (λ x. of_part x.net) s.sites i k
      ∙ sym (kind_in (get s.sites k))
    where
      of_part : (o : Option NetPart) → option_map kind (option_map f o) ≡ option_map kind o
      of_part None = refl
      of_part (Some n) = ap Some (keeps n)

  some-kind : {A : Type 0} (o : Option A) (s : State) (f : A → State) → ((x : A) → SameKind s (f x)) → SameKind s (where_some o s f)
  some-kind None s f each = refl
  some-kind (Some x) s f each = each x

  found-kind : {A : Type 0} (o : Option A) (s : State) (f : A → State) (p : A → Bool)
      → is_some_and o p ≡ true → ((x : A) → p x ≡ true → SameKind s (f x)) → SameKind s (where_some o s f)
  found-kind None s f p e each = refl
  found-kind (Some x) s f p e each = each x e

  if-kind : (b : Bool) (s t u : State) → SameKind s t → SameKind s u → SameKind s (if b then t else u)
  if-kind true s t u there here = there
  if-kind false s t u there here = here

  complete-kind : (s : State) (j : Ident) (out : Row) (x : ItemAt) → SameKind s (complete s j out x)
  complete-kind s j out x = change-kind (change s j (with_item (completed out))) j _ (λ y. refl) ∙ change-kind s j _ (λ y. refl)

  -- tokens go, and items come elsewhere
  enter-kind : (s : State) (i : Ident) (places : List Place) (first count : ℕ) (x : TaskAt)
      → is_some_and (entry_values x.task x.within.part.vals) (λ rows. length rows == count) ≡ true
      → list_any (same k) (map (child i) (range_with_len first count)) ≡ false → SameKind s (enter s i places first x)
  enter-kind s i places first count x many new =
      let taken : State = take s i (unwrap_or (place_numbers x.within.net places) []) in
      site-kind taken (enter s i places first x) (enter-same k s i places first count x many new) ∙ net-kind s i _ (λ n. refl)

  -- ---- a task of the net at k exits

  abbrev IsBelow : Ident × ItemPart → Type 0
  IsBelow e = is_child e.0 k ≡ true

  drop_all-above : (es : List (Ident × ItemPart)) (m : Sites) → All IsBelow es → get (drop_all m (idents es)) k ≡ get m k
  drop_all-above [] m below = refl
  drop_all-above (e ∷ es) m below =
      drop_all-above es (drop m e.0) (All-tail IsBelow e es below)
      ∙ get-retain_kept by_name m _ k (ap not (not_under_child e.0 k (All-head IsBelow e es below)))

  items-kind : (s : State) (n : ℕ) → SameKind s (without_items k s n)
  items-kind s n = site-kind s (without_items k s n) (drop_all-above (items_of s k n) s.sites (children s k n))

  each-kind : (ns : List ℕ) (s : State) → SameKind s (fold (without_items k) s ns)
  each-kind [] s = refl
  each-kind (n ∷ ns) s = each-kind ns (without_items k s n) ∙ items-kind s n

  exit-kind : (s : State) (places : List Place) (x : TaskAt) → SameKind s (exit s k places x)
  exit-kind s places x =
      let cs : List ℕ = unwrap_or (place_numbers x.within.net places) [] in
      let gone : State = items_gone s k x in
      let assigned : State = values_assigned s k x in
      let emptied : State = region_emptied s k x in
      let put : State = produce emptied k cs in
      let before : SameKind s assigned = net-kind gone k _ (λ n. refl) ∙ items-kind s x.number in
      let wiped : State = wipe assigned k x.task.drop_places in
      let there : SameKind s put =
      net-kind emptied k _ (λ n. refl) ∙ each-kind x.task.drop_tasks wiped ∙ net-kind assigned k _ (λ n. refl) ∙ before in
      if-kind _ s (make_due put k (case_place x.within.part.spec Post)) put (change-kind put k _ (λ y. refl) ∙ there) there

-- ---- the event is done at the net above j

no_both : (stage : Stage) → is_ready stage ≡ true → is_executing stage ≡ true → ⊥
no_both Ready ready runs = never runs
no_both Executing ready runs = never ready
no_both Completed ready runs = never ready

-- no net stands at an item that is ready
not_ready : (s : State) (j : Ident) (n : NetPart) (x : ItemAt) → NetsStand s → net_part s j ≡ Some n → item_at s j ≡ Some x
    → is_ready x.part.stage ≡ true → ⊥
not_ready s j n x nets has item ready = no_both x.part.stage ready (and_left _ _ (and_left _ _ (nets.of_item j n x has item)))

own_kind : (s : State) (e : Event) (said : Said) (j : Ident) (n : NetPart) → NetsStand s → net_part s (parent j) ≡ Some n → is_plain_event e ≡ true
    → Allowed s e said → removes s e j ≡ false → is_some_and (done_at e) (same j) ≡ false → list_any (same (parent j)) (made_by e) ≡ false
    → is_some_and (done_at e) (same (parent j)) ≡ true → kind_at (after s e said) (parent j) ≡ kind_at s (parent j)
unfolding after allows removes
own_kind s (events.Enter i t places first count) said j n nets has is ok stays other new here =
    found-kind (parent j) (task_at s i t) s _ _ ((and_parts _ _ ok.0).1) (λ x may.
    enter-kind (parent j) s i places first count x (and_left _ _ ((and_parts _ _ (and_left _ _ may)).1)) new)
own_kind s (events.Start i who) said j n nets has is ok stays other new here = change-kind (parent j) s i _ (λ x. refl)
own_kind s (events.Complete i out) said j n nets has is ok stays other new here =
    some-kind (parent j) (item_at s i) s _ (λ x. complete-kind (parent j) s i out x)
own_kind s (events.Exit i t places) said j n nets has is ok stays other new here =
    subst (λ k. kind_at (where_some (task_at s k t) s (exit s k places)) (parent j) ≡ kind_at s (parent j)) (is_same (parent j) i here)
    (some-kind (parent j) (task_at s (parent j) t) s _ (λ x. exit-kind (parent j) s places x))
own_kind s (events.Add i t value m) said j n nets has is ok stays other new here =
    site-kind (parent j) s (after s (events.Add i t value m) said) (added-same (parent j) s i t value m new)
own_kind s (events.StartSub i) said j n nets has is ok stays other new here =
    let (x, item, may) = there_and (item_at s i) _ ((and_parts _ _ ok.0).1) in
    absurd (not_ready s i n x nets (ap (net_part s) (sym (is_same (parent j) i here)) ∙ has) item (and_left _ _ may))
own_kind s (events.CompleteSub i) said j n nets has is ok stays other new here =
    let lies = under_parent j i (ap (under (parent j)) (sym (is_same (parent j) i here)) ∙ under_itself (parent j)) in
    never (sym stays ∙ and_from (under j i) _ lies (ap not other))
own_kind s (events.CompleteEmpty i) said j n nets has is ok stays other new here = change-kind (parent j) s i _ (λ x. refl)
own_kind s e said j n nets has is ok stays other new here = never here

-- ---- what the event makes has a number that wasn't drawn

undrawn : (s : State) (i : Ident) (n : ℕ) → s.next ≤ n → is_drawn s (child i n) ≡ false
undrawn s i n later =
    list_all-append (λ m. nat_lt m s.next) i (n ∷ []) ∙ and_right (is_drawn s i) _ (ap (λ b. b && true) (le-ltb n s.next later))

children_undrawn : (s : State) (i k : Ident) (first count : ℕ) → s.next ≤ first
    → list_any (same k) (map (child i) (range_with_len first count)) ≡ true → is_drawn s k ≡ false
children_undrawn s i k first zero later made = never made
children_undrawn s i k first (suc count) later made =
    elim (or_cases (same k (child i first)) _ made) [
      | inl here ↦ ap (is_drawn s) (is_same k (child i first) here) ∙ undrawn s i first later
      | inr rest ↦ children_undrawn s i k (first + 1) count (omega (arith, later)) rest
    ]

pub made_undrawn : (s : State) (e : Event) (said : Said) (k : Ident) → Allowed s e said → list_any (same k) (made_by e) ≡ true → is_drawn s k ≡ false
made_undrawn s (events.Launch n name vals) said k ok made =
    let next = first-drawn s (events.Launch n name vals) said n ok.0 refl in
    children_undrawn s [] k n 1 (omega (arith, next)) made
made_undrawn s (events.Enter i t places first count) said k ok made =
    let next = first-drawn s (events.Enter i t places first count) said first ok.0 refl in
    children_undrawn s i k first count (omega (arith, next)) made
made_undrawn s (events.Add i t value n) said k ok made =
    let next = first-drawn s (events.Add i t value n) said n ok.0 refl in
    children_undrawn s i k n 1 (omega (arith, next)) made
made_undrawn s e said k ok made = never made

pub above_kind : (s : State) (e : Event) (said : Said) (j : Ident) (x : Site) (n : NetPart) → NumbersFit s → NetsStand s → is_plain_event e ≡ true
    → Allowed s e said → Stands s j x → net_part s (parent j) ≡ Some n → removes s e j ≡ false → removes s e (parent j) ≡ false
    → is_some_and (done_at e) (same j) ≡ false → kind_at (after s e said) (parent j) ≡ kind_at s (parent j)
above_kind s e said j x n numbers nets is ok stands has stays above other =
    let drawn = all_parent (λ m. nat_lt m s.next) j (numbers.drawn j x stands) in
    let new = false_from_ne_true _ (λ made. never (sym (made_undrawn s e said (parent j) ok made) ∙ drawn)) in
    by_test (is_some_and (done_at e) (same (parent j)))
    (λ here. own_kind s e said j n nets has is ok stays other new here)
    (λ elsewhere. site-kind (parent j) s (after s e said) (left_alone (parent j) s e said is ok above elsewhere new))
