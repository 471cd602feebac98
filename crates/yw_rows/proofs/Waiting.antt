-- Where no way leads from a token to the empty input places of a join: the nodes from which they are reached are named, and none of
-- them holds a token.
use Rattle.std.specs.Prelude.{◌≡◌, ℕ, zero, suc, ◌||◌, Bool, true, false, not, List, Contains, IsTrue, Option, Some, None, nat_eq}
use Rattle.std.specs.List.{list_all}
use Rattle.std.proofs.Common.{subst, sym, arith}
use Rattle.std.proofs.lemmas.Bool.Decides.{nat_tests}
use Rattle.std.proofs.lemmas.List.Sums.{AllPass-from_list_all}
use Rattle.std.proofs.lemmas.Map.Views.{Contains-from_any}
use Rattle.yw_rows.specs.Play.{OfSome}
use Rattle.yw_spec.specs.Net.{Node, at_place, at_task, HasFlow, places_after, places_before}
use Rattle.yw_reach.specs.Walks.{WalkAlong}
use Rattle.yw_spec.specs.declared.spec.Net.{Net}
use Rattle.yw_spec.specs.declared.spec.Place.{Place}
use Rattle.yw_state.specs.Allowed.{Allowed, allows}
use Rattle.yw_state.specs.Identity.{Ident}
use Rattle.yw_state.specs.Joins.{Waits, holds_token, marked}
use Rattle.yw_state.specs.Nets.{is_among}
use Rattle.yw_state.specs.State.{State, TaskAt, task_at}
use Rattle.yw_state.specs.Texts.{nothing}
use Rattle.yw_state.specs.declared.event.Event.TheVariants.{Enter}
use Rattle.yw_state.specs.Words.{active}

-- what passes of all elements passes of one
pub of_all : (p : ℕ → Bool) (ns : List ℕ) (n : ℕ) → list_all p ns ≡ true → Contains ns n → p n ≡ true
of_all p ns n all (k, h, e) = subst (λ (m : ℕ). p m ≡ true) e (AllPass-from_list_all p ns all k n h)

same_number : (a b : ℕ) → nat_eq a b ≡ true → a ≡ b
same_number a b e = grind (arith, nat_tests)

pub of_among : (p : ℕ → Bool) (ns : List ℕ) (n : ℕ) → list_all p ns ≡ true → is_among ns n ≡ true → p n ≡ true
of_among p ns n all e = of_all p ns n all (Contains-from_any {eq = nat_eq} same_number n ns e)

-- the node is one of these places or tasks
abbrev is_of : List ℕ → List ℕ → Node → Bool
is_of places tasks (at_place c) = is_among places c
is_of places tasks (at_task t) = is_among tasks t

-- From no other node a flow leads to these places and tasks.
pub record AreClosed (net : Net) (places tasks : List ℕ) : Type 0 where
  pub before_tasks : list_all (λ t. list_all (is_among places) (places_before net t)) tasks ≡ true
  pub before_places : (t c : ℕ) → Contains (places_after net t) c → is_among places c ≡ true → is_among tasks t ≡ true

not_both : (b : Bool) → not b ≡ true → IsTrue b → ⊥
not_both true e h = cc
not_both false e h = cc

-- a task that leads to none of the places may be left out
pub elsewhere : (places tasks ns : List ℕ) (t c : ℕ) → list_all (λ d. not (is_among places d)) ns ≡ true → Contains ns c → is_among places c ≡ true
    → is_among tasks t ≡ true
elsewhere places tasks ns t c none h e = absurd (not_both (is_among places c) (of_all (λ d. not (is_among places d)) ns c none h) e)

one_back : (net : Net) (places tasks : List ℕ) → AreClosed net places tasks → (a b : Node) → HasFlow net a b → is_of places tasks b ≡ true
    → is_of places tasks a ≡ true
one_back net places tasks closed (at_place c) (at_task t) flow e =
    of_all (is_among places) (places_before net t) c (of_among (λ u. list_all (is_among places) (places_before net u)) tasks t closed.before_tasks e) flow
one_back net places tasks closed (at_task t) (at_place c) flow e = closed.before_places t c flow e
one_back net places tasks closed (at_place c) (at_place d) flow e = absurd flow
one_back net places tasks closed (at_task t) (at_task u) flow e = absurd flow

all_back : (net : Net) (places tasks : List ℕ) → AreClosed net places tasks → (a b : Node) (n : ℕ) → WalkAlong (HasFlow net) a b n
    → is_of places tasks b ≡ true → is_of places tasks a ≡ true
all_back net places tasks closed a b zero same e = subst (λ (x : Node). is_of places tasks x ≡ true) (sym same) e
all_back net places tasks closed a b (suc n) (c, walk, flow) e =
    all_back net places tasks closed a c n walk (one_back net places tasks closed c b flow e)

holds_none : (s : State) (i : Ident) (places tasks : List ℕ) → list_all (λ c. not (marked s i c)) places ≡ true
    → list_all (λ t. not (active s i t)) tasks ≡ true → (a : Node) → is_of places tasks a ≡ true → IsTrue (holds_token s i a) → ⊥
holds_none s i places tasks unmarked idle (at_place c) e h = not_both _ (of_among (λ c. not (marked s i c)) places c unmarked e) h
holds_none s i places tasks unmarked idle (at_task t) e h = not_both _ (of_among (λ t. not (active s i t)) tasks t idle e) h

-- Each input place of the task is marked or one of these places, of which with these tasks none holds a token.
pub waits_not : (s : State) (i : Ident) (x : TaskAt) (places tasks : List ℕ) → AreClosed x.within.net places tasks
    → list_all (λ c. marked s i c || is_among places c) x.task.before ≡ true → list_all (λ c. not (marked s i c)) places ≡ true
    → list_all (λ t. not (active s i t)) tasks ≡ true → Waits s i x → ⊥
waits_not s i x places tasks closed inputs unmarked idle w =
    holds_none s i places tasks unmarked idle w.source
    (all_back x.within.net places tasks closed w.source (at_place w.input) w.path.0 w.path.1
    (else_among (marked s i w.input) (is_among places w.input) (of_all (λ c. marked s i c || is_among places c) x.task.before w.input inputs w.of_task) w.empty))
    w.holds
  where
    else_among : (m u : Bool) → (m || u) ≡ true → IsTrue (not m) → u ≡ true
    else_among true u e h = cc
    else_among false u e h = e

pub inside_some : {A : Type 0} (y x : A) → Some y ≡ Some x → y ≡ x
inside_some y x e = cc

pub of_some : {A : Type 0} (o : Option A) (P : A → Type 0) → OfSome o P → (x : A) → o ≡ Some x → P x
of_some None P p x e = absurd p
of_some (Some y) P p x e = subst P (inside_some y x e) p

-- a task that doesn't wait is entered, where it has its tokens
pub enters : (o : Option State) (i : Ident) (t : List ℕ) (places : List Place) (first count : ℕ)
    → OfSome o (λ s. IsTrue (allows s (Enter i t places first count) nothing)) → OfSome o (λ s. OfSome (task_at s i t) (λ x. Waits s i x → ⊥))
    → OfSome o (λ s. Allowed s (Enter i t places first count) nothing)
enters None i t places first count tokens no_wait = tokens
enters (Some s) i t places first count tokens no_wait = (tokens, λ x here is_or. of_some (task_at s i t) (λ y. Waits s i y → ⊥) no_wait x here)
