-- What is removed is so with all below it: where something below an identity is removed, so is that, or it is changed; and the other way round.
use Rattle.std.specs.Prelude.{◌≡◌, ◌⊎◌, ◌==◌, ◌&&◌, Bool, true, false, not, [], ◌∷◌, is_some, refl}
use Rattle.std.specs.List.{list_any}
use Rattle.std.proofs.Common.{◌∙◌, ap, sym, inl, inr}
use Rattle.std.proofs.lemmas.Bool.{and_from, and_parts, eqb-true, false_from_ne_true}
use Rattle.yw_base.specs.Identity.{under, parent}
use Rattle.yw_moved.proofs.Parents.{is_same, itself_or_above, parent_of_child, same_itself}
use Rattle.yw_state.proofs.Elsewhere.{children}
use Rattle.yw_state.proofs.Entries.{passes, passing}
use Rattle.yw_state.proofs.Leaving.{under-trans}
use Rattle.yw_state.proofs.Tests.{by_test, never, there_and}
use Rattle.yw_state.proofs.Under.{under_parent}
use Rattle.yw_state.specs.Exlets.{case_above}
use Rattle.yw_state.specs.Gone.{cut_back_removes, exit_removes, primitive_removes, removes, under_item}
use Rattle.yw_state.specs.Identity.{Ident, case_ident, is_child, same, strictly_under}
use Rattle.yw_state.specs.Options.{is_some_and}
use Rattle.yw_state.specs.State.{State, ItemPart, item_at, items_of, task_at}
use Rattle.yw_state.specs.Words.{is_completed}
use Rattle.yw_state.specs.declared.event.Event.{Event}
use Rattle.yw_state.specs.declared.event.Event.TheVariants as events
use Rattle.yw_state.specs.declared.tree.Primitive.{Primitive}
use Rattle.yw_state.specs.declared.tree.Primitive.TheVariants.{SuspendItem, ContinueItem, RestartItem, CompleteItem, RemoveItem, SuspendCase, ContinueCase, RemoveCase, Compensate, Unknown}
use Rattle.yw_idle.proofs.Among.{first_of, in_all, second_of, fourth_of}
use Rattle.yw_idle.specs.Warms.{changes}

abbrev pub GoesOrChanges : State → Event → Ident → Type 0
GoesOrChanges s e j = (removes s e j ≡ true) ⊎ (list_any (same j) (changes e) ≡ true)

is_one : (e : Event) (q j : Ident) → list_any (same q) (changes e) ≡ true → same j q ≡ true → list_any (same j) (changes e) ≡ true
is_one e q j at here = ap (λ i. list_any (same i) (changes e)) (is_same j q here) ∙ at

-- ---- directly above what is removed

-- under q all goes that isn't q
strictly : (s : State) (e : Event) (q k : Ident) → list_any (same q) (changes e) ≡ true → strictly_under k q ≡ true
    → ((j : Ident) → strictly_under j q ≡ true → GoesOrChanges s e j) → GoesOrChanges s e (parent k)
strictly s e q k at lies goes =
    let parts = and_parts (under k q) (not (same k q)) lies in
    elim (itself_or_above k q parts.0) [
      | inl is ↦ never (sym (ap not (ap (λ i. same i q) is ∙ same_itself q)) ∙ parts.1)
      | inr up ↦ by_test (same (parent k) q)
          (λ here. inr (is_one e q (parent k) at here))
          (λ other. goes (parent k) (and_from (under (parent k) q) _ up (ap not other)))
    ]

module _ (s : State) (r k : Ident) where
  cut : (p : Primitive) → (b : Bool) → b ≡ true → ((j : Ident) → primitive_removes s r j p ≡ (b && cut_back_removes r j))
      → cut_back_removes r k ≡ true → GoesOrChanges s (events.Prim r p) (parent k)
  unfolding removes
  cut p b so is gone =
      strictly s (events.Prim r p) (parent r) k (second_of (parent r) r (case_above r ∷ parent (parent r) ∷ []))
      (and_parts (strictly_under k (parent r)) _ gone).0
      (λ j below. by_test (same j r)
      (λ here. inr (is_one (events.Prim r p) r j (first_of r (parent r ∷ case_above r ∷ parent (parent r) ∷ [])) here))
      (λ other. inl (is j ∙ and_from b _ so (and_from (strictly_under j (parent r)) _ below (ap not other)))))

pub goes_up : (s : State) (e : Event) (k : Ident) → (parent k ≡ [] → ⊥) → removes s e k ≡ true → GoesOrChanges s e (parent k)
unfolding removes
goes_up s (events.Exit i t places) k below_top gone =
    let (x, found, some) = there_and (task_at s i t) (exit_removes s i k) gone in
    let (n, of_task, among) = passing (under_item s i k) (x.number ∷ x.task.drop_tasks) some in
    let (y, item, lies) = passing (λ (y : Ident × ItemPart). under k y.0) (items_of s i n) among in
    let below = in_all (λ (y : Ident × ItemPart). is_child y.0 i ≡ true) (items_of s i n) y (children s i n) item in
    elim (itself_or_above k y.0 lies) [
      | inl is ↦ inr (ap (λ q. list_any (same q) (i ∷ [])) (ap parent is ∙ parent_of_child y.0 i below) ∙ first_of i [])
      | inr up ↦ inl (ap (λ o. is_some_and o (exit_removes s i (parent k))) found
          ∙ passes (under_item s i (parent k)) (x.number ∷ x.task.drop_tasks) n of_task
          (passes (λ (z : Ident × ItemPart). under (parent k) z.0) (items_of s i n) y item up))
    ]
goes_up s (events.Finish n) k below_top gone = elim (itself_or_above k (case_ident n) gone) [ inl is ↦ absurd (below_top (ap parent is)) | inr up ↦ inl up ]
goes_up s (events.Cancel n) k below_top gone = elim (itself_or_above k (case_ident n) gone) [ inl is ↦ absurd (below_top (ap parent is)) | inr up ↦ inl up ]
goes_up s (events.CompleteSub i) k below_top gone = strictly s (events.CompleteSub i) i k (first_of i []) gone (λ j below. inl below)
goes_up s (events.CompleteWorklet i) k below_top gone = strictly s (events.CompleteWorklet i) i k (first_of i []) gone (λ j below. inl below)
goes_up s (events.Compensated r) k below_top gone = strictly s (events.Compensated r) r k (first_of r (parent r ∷ [])) gone (λ j below. inl below)
goes_up s (events.Prim r RestartItem) k below_top gone =
    let parts = and_parts (is_some (item_at s (parent r))) _ gone in cut s r k RestartItem (is_some (item_at s (parent r))) parts.0 (λ j. refl) parts.1
goes_up s (events.Prim r CompleteItem) k below_top gone =
    let parts = and_parts (is_some_and (item_at s (parent r)) (λ x. not (is_completed x.part.stage))) _ gone in
    cut s r k CompleteItem (is_some_and (item_at s (parent r)) (λ x. not (is_completed x.part.stage))) parts.0 (λ j. refl) parts.1
goes_up s (events.Prim r RemoveItem) k below_top gone = elim (itself_or_above k (parent r) gone) [
  | inl is ↦ inr (ap (λ i. list_any (same (parent i)) (changes (events.Prim r RemoveItem))) is ∙ fourth_of (parent (parent r)) r (parent r) (case_above r) [])
  | inr up ↦ inl up
]
goes_up s (events.Prim r RemoveCase) k below_top gone =
    elim (itself_or_above k (case_above r) gone) [ inl is ↦ absurd (below_top (ap parent is)) | inr up ↦ inl up ]
goes_up s (events.Prim r SuspendItem) k below_top gone = never gone
goes_up s (events.Prim r ContinueItem) k below_top gone = never gone
goes_up s (events.Prim r SuspendCase) k below_top gone = never gone
goes_up s (events.Prim r ContinueCase) k below_top gone = never gone
goes_up s (events.Prim r (Compensate name)) k below_top gone = never gone
goes_up s (events.Prim r (Unknown text)) k below_top gone = never gone
goes_up s e k below_top gone = never gone

-- ---- directly below what is removed

-- all under q goes that isn't q, or r where one stays
below_cut : (s : State) (e : Event) (q j : Ident) → list_any (same q) (changes e) ≡ true → under (parent j) q ≡ true
    → (under j q ≡ true → same j q ≡ false → GoesOrChanges s e j) → GoesOrChanges s e j
below_cut s e q j at lies goes = by_test (same j q) (λ here. inr (is_one e q j at here)) (λ other. goes (under_parent j q lies) other)

module _ (s : State) (r j : Ident) where
  cut_down : (p : Primitive) (b : Bool) → b ≡ true → primitive_removes s r j p ≡ (b && cut_back_removes r j)
      → cut_back_removes r (parent j) ≡ true → GoesOrChanges s (events.Prim r p) j
  unfolding removes
  cut_down p b so is gone =
      below_cut s (events.Prim r p) (parent r) j (second_of (parent r) r (case_above r ∷ parent (parent r) ∷ []))
      (and_parts (under (parent j) (parent r)) _ (and_parts (strictly_under (parent j) (parent r)) _ gone).0).0
      (λ lies other. by_test (same j r)
      (λ here. inr (is_one (events.Prim r p) r j (first_of r (parent r ∷ case_above r ∷ parent (parent r) ∷ [])) here))
      (λ not_run. inl (is ∙ and_from b _ so (and_from (strictly_under j (parent r)) _ (and_from (under j (parent r)) _ lies (ap not other)) (ap not not_run)))))

pub goes_down : (s : State) (e : Event) (j : Ident) → removes s e (parent j) ≡ true → GoesOrChanges s e j
unfolding removes
goes_down s (events.Exit i t places) j gone =
    let (x, found, some) = there_and (task_at s i t) (exit_removes s i (parent j)) gone in
    let (n, of_task, among) = passing (under_item s i (parent j)) (x.number ∷ x.task.drop_tasks) some in
    let (y, item, lies) = passing (λ (y : Ident × ItemPart). under (parent j) y.0) (items_of s i n) among in
    inl (ap (λ o. is_some_and o (exit_removes s i j)) found
    ∙ passes (under_item s i j) (x.number ∷ x.task.drop_tasks) n of_task
    (passes (λ (z : Ident × ItemPart). under j z.0) (items_of s i n) y item (under_parent j y.0 lies)))
goes_down s (events.Finish n) j gone = inl (under_parent j (case_ident n) gone)
goes_down s (events.Cancel n) j gone = inl (under_parent j (case_ident n) gone)
goes_down s (events.CompleteSub i) j gone =
    below_cut s (events.CompleteSub i) i j (first_of i []) (and_parts (under (parent j) i) _ gone).0
    (λ lies other. inl (and_from (under j i) _ lies (ap not other)))
goes_down s (events.CompleteWorklet i) j gone =
    below_cut s (events.CompleteWorklet i) i j (first_of i []) (and_parts (under (parent j) i) _ gone).0
    (λ lies other. inl (and_from (under j i) _ lies (ap not other)))
goes_down s (events.Compensated r) j gone =
    below_cut s (events.Compensated r) r j (first_of r (parent r ∷ [])) (and_parts (under (parent j) r) _ gone).0
    (λ lies other. inl (and_from (under j r) _ lies (ap not other)))
goes_down s (events.Prim r RestartItem) j gone =
    let parts = and_parts (is_some (item_at s (parent r))) _ gone in cut_down s r j RestartItem (is_some (item_at s (parent r))) parts.0 refl parts.1
goes_down s (events.Prim r CompleteItem) j gone =
    let parts = and_parts (is_some_and (item_at s (parent r)) (λ x. not (is_completed x.part.stage))) _ gone in
    cut_down s r j CompleteItem (is_some_and (item_at s (parent r)) (λ x. not (is_completed x.part.stage))) parts.0 refl parts.1
goes_down s (events.Prim r RemoveItem) j gone = inl (under_parent j (parent r) gone)
goes_down s (events.Prim r RemoveCase) j gone = inl (under_parent j (case_above r) gone)
goes_down s (events.Prim r SuspendItem) j gone = never gone
goes_down s (events.Prim r ContinueItem) j gone = never gone
goes_down s (events.Prim r SuspendCase) j gone = never gone
goes_down s (events.Prim r ContinueCase) j gone = never gone
goes_down s (events.Prim r (Compensate name)) j gone = never gone
goes_down s (events.Prim r (Unknown text)) j gone = never gone
goes_down s e j gone = never gone

-- ---- anywhere below what is removed

both_ways : (k j : Ident) → under k j ≡ true → under j k ≡ true → k ≡ j
both_ways [] [] a b = refl
both_ways [] (m ∷ j) a b = never a
both_ways (x ∷ k) [] a b = never b
both_ways (x ∷ k) (m ∷ j) a b =
    let down = and_parts (m == x) (under k j) a in
    let up = and_parts (x == m) (under j k) b in
    ap (λ n. n ∷ k) (sym (eqb-true m x down.0)) ∙ ap (λ i. m ∷ i) (both_ways k j down.1 up.1)

strictly_below : (k i j : Ident) → strictly_under k i ≡ true → under j k ≡ true → strictly_under j i ≡ true
strictly_below k i j strict lies =
    let parts = and_parts (under k i) (not (same k i)) strict in
    and_from (under j i) _ (under-trans j k i lies parts.0)
    (ap not (false_from_ne_true (same j i) (λ here.
    let is : k ≡ i = both_ways k i parts.0 (ap (λ q. under q k) (sym (is_same j i here)) ∙ lies) in
    never (sym (ap not (ap (λ q. same q i) is ∙ same_itself i)) ∙ parts.1))))

cut_below : (r k j : Ident) → cut_back_removes r k ≡ true → under j k ≡ true → cut_back_removes r j ≡ true
cut_below r k j cut lies =
    let parts = and_parts (strictly_under k (parent r)) (not (same k r)) cut in
    let strict = and_parts (under k (parent r)) (not (same k (parent r))) parts.0 in
    and_from (strictly_under j (parent r)) _ (strictly_below k (parent r) j parts.0 lies)
    (ap not (false_from_ne_true (same j r) (λ here.
    elim (itself_or_above r k (ap (λ q. under q k) (sym (is_same j r here)) ∙ lies)) [
      | inl is ↦ never (sym (ap not (ap (λ q. same q r) (sym is) ∙ same_itself r)) ∙ parts.1)
      | inr above ↦ never (sym (ap not (ap (λ q. same q (parent r)) (both_ways k (parent r) strict.0 above) ∙ same_itself (parent r))) ∙ strict.1)
    ])))

pub goes_below : (s : State) (e : Event) (k j : Ident) → removes s e k ≡ true → under j k ≡ true → removes s e j ≡ true
unfolding removes
goes_below s (events.Exit i t places) k j gone lies =
    let (x, found, some) = there_and (task_at s i t) (exit_removes s i k) gone in
    let (n, of_task, among) = passing (under_item s i k) (x.number ∷ x.task.drop_tasks) some in
    let (y, item, above) = passing (λ (y : Ident × ItemPart). under k y.0) (items_of s i n) among in
    ap (λ o. is_some_and o (exit_removes s i j)) found
    ∙ passes (under_item s i j) (x.number ∷ x.task.drop_tasks) n of_task
    (passes (λ (z : Ident × ItemPart). under j z.0) (items_of s i n) y item (under-trans j k y.0 lies above))
goes_below s (events.Finish n) k j gone lies = under-trans j k (case_ident n) lies gone
goes_below s (events.Cancel n) k j gone lies = under-trans j k (case_ident n) lies gone
goes_below s (events.CompleteSub i) k j gone lies = strictly_below k i j gone lies
goes_below s (events.CompleteWorklet i) k j gone lies = strictly_below k i j gone lies
goes_below s (events.Compensated r) k j gone lies = strictly_below k r j gone lies
goes_below s (events.Prim r RestartItem) k j gone lies =
    let parts = and_parts (is_some (item_at s (parent r))) _ gone in and_from _ _ parts.0 (cut_below r k j parts.1 lies)
goes_below s (events.Prim r CompleteItem) k j gone lies =
    let parts = and_parts (is_some_and (item_at s (parent r)) (λ x. not (is_completed x.part.stage))) _ gone in
    and_from _ _ parts.0 (cut_below r k j parts.1 lies)
goes_below s (events.Prim r RemoveItem) k j gone lies = under-trans j k (parent r) lies gone
goes_below s (events.Prim r RemoveCase) k j gone lies = under-trans j k (case_above r) lies gone
goes_below s (events.Prim r SuspendItem) k j gone lies = never gone
goes_below s (events.Prim r ContinueItem) k j gone lies = never gone
goes_below s (events.Prim r SuspendCase) k j gone lies = never gone
goes_below s (events.Prim r ContinueCase) k j gone lies = never gone
goes_below s (events.Prim r (Compensate name)) k j gone lies = never gone
goes_below s (events.Prim r (Unknown text)) k j gone lies = never gone
goes_below s e k j gone lies = never gone
