-- The counter after an event: it goes up by the numbers drawn, and not past its end.
use Rattle.std.specs.Prelude.{ℕ, ◌≡◌, ◌≤◌, ◌+◌, ◌==◌, ◌&&◌, Bool, true, false, List, [], ◌∷◌, fold, length, nat_le, nat_lt, Option, Some, None, refl, if◌then◌else◌, is_some, option_and_then, unwrap_or, IsTrue}
use Rattle.std.proofs.Common.{sym, ◌∙◌, ap, subst, arith}
use Rattle.std.proofs.lemmas.Bool.{eqb-true, leb-true}
use Rattle.yw_base.specs.Identity.{number_end, parent}
use Rattle.yw_spec.specs.declared.spec.Net.{Net}
use Rattle.yw_spec.specs.declared.spec.Place.{Place}
use Rattle.yw_spec.specs.declared.spec.Spec.{Spec}
use Rattle.yw_state.specs.After
use Rattle.yw_state.specs.Allowed.{allows, depth_end}
use Rattle.yw_state.specs.Drawn.{first_drawn, count_drawn}
use Rattle.yw_state.specs.Events.{after}
use Rattle.yw_state.specs.Exlets
use Rattle.yw_state.specs.Identity.{Ident}
use Rattle.yw_state.specs.Nets.{is_atomic, top_net}
use Rattle.yw_state.specs.Options.{is_some_and}
use Rattle.yw_state.specs.Passing.{entry_values, given_values}
use Rattle.yw_state.specs.State.{State, Site, TaskAt, item_at, net_at, spec_called, task_at, top_called}
use Rattle.yw_state.specs.Texts.{Said, nothing, a_spec, a_test}
use Rattle.yw_state.specs.Values.{Row}
use Rattle.yw_state.specs.Words.{is_completed}
use Rattle.yw_state.specs.declared.event.Event.{Event}
use Rattle.yw_state.specs.declared.event.Event.TheVariants as events
use Rattle.yw_state.specs.declared.tree.Conclusion.{Conclusion}
use Rattle.yw_state.specs.declared.tree.Primitive.{Primitive}
use Rattle.yw_state.specs.declared.tree.Primitive.TheVariants as primitives
use Rattle.yw_state.specs.declared.tree.TreePlace.{TreePlace}
use Rattle.yw_state.proofs.Tests.{never, nowhere, some_same, by_option, and_left, and_right, there_and}

-- ---- what leaves the counter

where_some-next : {A : Type 0} (o : Option A) (s : State) (f : A → State) → ((x : A) → (f x).next ≡ s.next) → (After.where_some o s f).next ≡ s.next
where_some-next None s f each = refl
where_some-next (Some x) s f each = each x

where_spec-next : (s : State) (name : List ℕ) (f : Spec → Net → State) → ((spec : Spec) (net : Net) → (f spec net).next ≡ s.next) → (After.where_spec s name f).next ≡ s.next
where_spec-next s name f each = where_some-next (spec_called s name) s _ (λ spec. where_some-next (top_called s name) s (f spec) (each spec))

if-next : {n : ℕ} (b : Bool) (t u : State) → t.next ≡ n → u.next ≡ n → (if b then t else u).next ≡ n
if-next true t u p q = p
if-next false t u p q = q

without_items-next : (i : Ident) (ks : List ℕ) (s : State) → (fold (After.without_items i) s ks).next ≡ s.next
without_items-next i [] s = refl
without_items-next i (k ∷ ks) s = without_items-next i ks (After.without_items i s k)

exit-next : (s : State) (i : Ident) (places : List Place) (x : TaskAt) → (After.exit s i places x).next ≡ s.next
exit-next s i places x = let left = without_items-next i x.task.drop_tasks _ in if-next _ _ _ left left

compensate-next : (s : State) (r j : Ident) (name : List ℕ) → (Exlets.primitive s r j (primitives.Compensate name)).next ≡ s.next
compensate-next s r j name = if-next (nat_lt (length r) depth_end) _ s (where_spec-next s name _ (λ spec net. refl)) refl

primitive-next : (s : State) (r j : Ident) (p : Primitive) → (Exlets.primitive s r j p).next ≡ s.next
primitive-next s r j primitives.SuspendItem = refl
primitive-next s r j primitives.ContinueItem = refl
primitive-next s r j primitives.RestartItem = where_some-next (item_at s j) s _ (λ x. if-next (is_atomic x.of_task.task) _ _ refl refl)
primitive-next s r j primitives.CompleteItem = where_some-next (item_at s j) s _ (λ x. if-next (is_completed x.part.stage) s _ refl refl)
primitive-next s r j primitives.RemoveItem = refl
primitive-next s r j primitives.SuspendCase = refl
primitive-next s r j primitives.ContinueCase = refl
primitive-next s r j primitives.RemoveCase = refl
primitive-next s r j (primitives.Compensate name) = compensate-next s r j name
primitive-next s r j (primitives.Unknown text) = refl

end_if_over-next : (s : State) (r : Ident) → (Exlets.end_if_over s r).next ≡ s.next
end_if_over-next s r = if-next _ _ s refl refl

-- the states have one counter
record SameNext (s t : State) : Type 0 where
  pub next : t.next ≡ s.next

then_same : {s t u : State} → SameNext s t → SameNext t u → SameNext s u
then_same a b = record { next = b.next ∙ a.next }

changed-same : (s : State) (j : Ident) (f : Site → Site) → SameNext s (After.change s j f)
changed-same s j f = record { next = refl }

primitive-same : (s : State) (r j : Ident) (p : Primitive) → SameNext s (Exlets.primitive s r j p)
primitive-same s r j p = record { next = primitive-next s r j p }

end_if_over-same : (s : State) (r : Ident) → SameNext s (Exlets.end_if_over s r)
end_if_over-same s r = record { next = end_if_over-next s r }

take_primitive-same : (s : State) (r : Ident) (p : Primitive) → SameNext s (Exlets.take_primitive s r p)
take_primitive-same s r p = then_same (then_same (changed-same s r _) (primitive-same _ r (parent r) p)) (end_if_over-same _ r)

load-next : (s : State) (name text : List ℕ) (said : Said) → (After.load s name text said).next ≡ s.next
load-next s name text nothing = refl
load-next s name text (a_spec spec) = refl
load-next s name text (a_test test) = refl

add_rule-next : (s : State) (p : TreePlace) (at : ℕ) (side : Bool) (when : List ℕ) (conclusion : Conclusion) (said : Said) → (After.add_rule s p at side when conclusion said).next ≡ s.next
add_rule-next s p at side when conclusion nothing = refl
add_rule-next s p at side when conclusion (a_spec spec) = refl
add_rule-next s p at side when conclusion (a_test test) = refl

-- ---- the counter goes up by the numbers drawn

where_and-next : {A : Type 0} (o : Option A) (s : State) (f : A → State) (p : A → Bool) (n : ℕ) → is_some_and o p ≡ true → ((x : A) → p x ≡ true → (f x).next ≡ n) → (After.where_some o s f).next ≡ n
where_and-next None s f p n e each = never e
where_and-next (Some x) s f p n e each = each x e

where_is-next : {A : Type 0} (o : Option A) (s : State) (f : A → State) (n : ℕ) → is_some o ≡ true → ((x : A) → (f x).next ≡ n) → (After.where_some o s f).next ≡ n
where_is-next None s f n e each = never e
where_is-next (Some x) s f n e each = each x

-- a top net is of a specification that is loaded
where_top-next : (o : Option Spec) (s : State) (f : Spec → Net → State) (p : Net → Bool) (n : ℕ) → is_some_and (option_and_then top_net o) p ≡ true → ((spec : Spec) (net : Net) → (f spec net).next ≡ n)
    → (After.where_some o s (λ spec. After.where_some (option_and_then top_net o) s (f spec))).next ≡ n
where_top-next None s f p n e each = never e
where_top-next (Some spec) s f p n e each = where_and-next (top_net spec) s (f spec) p n e (λ net _. each spec net)

row_count : (o : Option (List Row)) (count : ℕ) → is_some_and o (λ rows. length rows == count) ≡ true → length (unwrap_or o []) ≡ count
row_count None count e = never e
row_count (Some rows) count e = eqb-true (length rows) count e

from_first : (first next count : ℕ) → (first == next) ≡ true → first + count ≡ next + count
from_first first next count e = ap (λ n. n + count) (eqb-true first next e)

none_drawn : (t s : ℕ) → t ≡ s → t ≡ s + 0
none_drawn t s e = omega arith

pub next-after : (s : State) (e : Event) (said : Said) → IsTrue (allows s e said) → (after s e said).next ≡ s.next + count_drawn e
unfolding allows after
next-after s (events.Person name roles) said ok = none_drawn _ _ refl
next-after s (events.Load name text) said ok = none_drawn _ _ (load-next s name text said)
next-after s (events.AddRule p at side when conclusion number) said ok = none_drawn _ _ (add_rule-next s p at side when conclusion said)
next-after s (events.Launch n name vals) said ok =
    where_top-next (spec_called s name) s _ _ (n + 1) (and_right _ _ ok) (λ spec net. refl) ∙ from_first n s.next 1 (and_left _ _ (and_left _ _ ok))
next-after s (events.Enter i t places first count) said ok =
    where_and-next (task_at s i t) s (After.enter s i places first) _ (s.next + count) (and_right _ _ ok) (λ x e.
    ap (λ k. first + k) (row_count (entry_values x.task x.within.part.vals) count (and_left _ _ (and_right _ _ (and_left _ _ e))))
    ∙ from_first first s.next count (and_left _ _ (and_right _ _ e)))
next-after s (events.Start j who) said ok = none_drawn _ _ refl
next-after s (events.Complete j out) said ok = none_drawn _ _ (where_some-next (item_at s j) s _ (λ x. refl))
next-after s (events.Exit i t places) said ok = none_drawn _ _ (where_some-next (task_at s i t) s _ (exit-next s i places))
next-after s (events.Add i t value n) said ok =
    where_and-next (task_at s i t) s (After.add s i value n) _ (n + 1) (and_right _ _ (and_left _ _ ok)) (λ x e.
    where_is-next (given_values x.task x.within.part.vals (Some value)) s _ (n + 1) (and_right _ _ e) (λ given. refl))
    ∙ from_first n s.next 1 (and_left _ _ (and_right _ _ ok))
next-after s (events.Finish n) said ok = none_drawn _ _ refl
next-after s (events.Cancel n) said ok = none_drawn _ _ refl
next-after s (events.StartSub j) said ok = none_drawn _ _ (where_some-next (item_at s j) s _ (λ x. where_some-next _ s _ (λ e. refl)))
next-after s (events.CompleteSub j) said ok = none_drawn _ _ (where_some-next (item_at s j) s _ (λ x. where_some-next (net_at s j) s _ (λ n. refl)))
next-after s (events.CompleteEmpty j) said ok = none_drawn _ _ refl
next-after s (events.Pass j check) said ok = none_drawn _ _ refl
next-after s (events.Except j check node n) said ok = from_first n s.next 1 (and_left _ _ (and_right _ _ ok))
next-after s (events.Substitute j name) said ok = none_drawn _ _ (where_some-next (item_at s j) s _ (λ x. where_spec-next s name _ (λ spec net. refl)))
next-after s (events.CompleteWorklet j) said ok = none_drawn _ _ (where_some-next (item_at s j) s _ (λ x. where_some-next (net_at s j) s _ (λ n. refl)))
next-after s (events.Raise j kind node n) said ok = from_first n s.next 1 (and_left _ _ (and_right _ _ ok))
next-after s (events.Prim r p) said ok = none_drawn _ _ (take_primitive-same s r p).next
next-after s (events.Compensated r) said ok = none_drawn _ _ (end_if_over-next _ r)
next-after s (events.Suspend j) said ok = none_drawn _ _ refl
next-after s (events.Continue j) said ok = none_drawn _ _ refl
next-after s (events.Advance n) said ok = none_drawn _ _ refl

-- ---- numbers are drawn from the counter on, and there are enough

-- The numbers begin at the counter and end at its limit at most.
record AreNext (s : State) (first count : ℕ) : Type 0 where
  pub here : first ≡ s.next
  pub within : first + count ≤ number_end

are_next : (s : State) (first count : ℕ) → (first == s.next && nat_le (first + count) number_end) ≡ true → AreNext s first count
are_next s first count e = record { here = eqb-true first s.next (and_left _ _ e); within = leb-true (first + count) number_end (and_right _ _ e) }

drawn_next : (s : State) (e : Event) (said : Said) (first : ℕ) → IsTrue (allows s e said) → first_drawn e ≡ Some first → AreNext s first (count_drawn e)
unfolding allows
drawn_next s (events.Launch n name vals) said first ok is = subst (λ k. AreNext s k 1) (some_same n first is) (are_next s n 1 (and_left _ _ ok))
drawn_next s (events.Enter i t places n count) said first ok is =
    let task = there_and (task_at s i t) _ (and_right _ _ ok) in
    subst (λ k. AreNext s k count) (some_same n first is) (are_next s n count (and_right _ _ task.2))
drawn_next s (events.Add i t value n) said first ok is = subst (λ k. AreNext s k 1) (some_same n first is) (are_next s n 1 (and_right _ _ ok))
drawn_next s (events.Except j check node n) said first ok is = subst (λ k. AreNext s k 1) (some_same n first is) (are_next s n 1 (and_right _ _ ok))
drawn_next s (events.Raise j kind node n) said first ok is = subst (λ k. AreNext s k 1) (some_same n first is) (are_next s n 1 (and_right _ _ ok))
drawn_next s e said first ok is = nowhere is

pub first-drawn : (s : State) (e : Event) (said : Said) (first : ℕ) → IsTrue (allows s e said) → first_drawn e ≡ Some first → first ≡ s.next
first-drawn s e said first ok is = (drawn_next s e said first ok is).here

count_none : (e : Event) → first_drawn e ≡ None → count_drawn e ≡ 0
count_none (events.Launch n name vals) is = nowhere (sym is)
count_none (events.Enter i t places n count) is = nowhere (sym is)
count_none (events.Add i t value n) is = nowhere (sym is)
count_none (events.Except j check node n) is = nowhere (sym is)
count_none (events.Raise j kind node n) is = nowhere (sym is)
count_none e is = refl

pub next-within : (s : State) (e : Event) (said : Said) → IsTrue (allows s e said) → s.next ≤ number_end → (after s e said).next ≤ number_end
next-within s e said ok least =
    let up = next-after s e said ok in
    by_option (first_drawn e)
    (λ none. let nothing_drawn = count_none e none in omega arith)
    (λ first some. let fit = drawn_next s e said first ok some in omega arith)

pub next-rises : (s : State) (e : Event) (said : Said) → IsTrue (allows s e said) → s.next ≤ (after s e said).next
next-rises s e said ok = let up = next-after s e said ok in omega arith
