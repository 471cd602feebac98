-- What a map of the definitions shows of a net, wherever the net stands.
use Rattle.std.specs.Prelude.{◌≡◌, ◌+◌, ℕ, true, Option, Some, None, List, [], ◌++◌, ◌∷◌, T, Vec, IsTrue, length, option_and_then, remove, slice_get}
use Rattle.std.specs.FinMap.Entries.{find}
use Rattle.std.specs.Ordering.{is_lt}
use Rattle.std.specs.declared.alloc.Global.{Global}
use Rattle.yw_sites.specs.Entries.{Entries, NoneUnder}
use Rattle.yw_sites.specs.Idents.{AreChildren, Each, IsChild}
use Rattle.yw_state.specs.After.{idents}
use Rattle.yw_state.specs.Identity.{Ident, is_child, strictly_under}
use Rattle.yw_state.specs.Map.{get, insert, lexical}
use Rattle.yw_state.specs.State.{Site, Sites, State, drop, drop_all, items_of}
use Rattle.yw_tree.specs.Boxed.{IsBoxedNet, IsNetAt, ids}
use Rattle.yw_tree.specs.Entries.{item_site, net_entries, net_part}
use Rattle.yw_tree.specs.declared.NetState.{NetState, out-NetState}
use Rattle.yw_tree.specs.declared.Node.{Node, out-Node}

-- At i the map has this net, and strictly under i what is below the net and what stands beside it, and nothing else.
pub record ShowsNet (names : ℕ → List ℕ) (m : Sites) (i : Ident) (beside : Entries) (s : NetState) : Type 0 where
  pub part : option_and_then (λ (x : Site). x.net) (get m i) ≡ Some (net_part names s)
  pub below : (q : Ident) → IsTrue (strictly_under q i) → get m q ≡ find lexical q ((net_entries names s).1 ++ beside)

-- What stands beside the items js of the net at i: it has no item directly under i, and nothing under one of these.
pub record StandsBeside (i : Ident) (js : List Ident) (beside : Entries) : Type 0 where
  pub quiet : (q : Ident) (x : Site) → is_child q i ≡ true → find lexical q beside ≡ Some x → x.item ≡ None
  pub apart : Each (λ j. NoneUnder j beside) js

-- ---- what a net keeps where items go or come

-- its own part, and how many lists it has
pub record KeepsOwn (old new : NetState) : Type 0 where
  pub spec : (out-NetState new).spec ≡ (out-NetState old).spec
  pub net : (out-NetState new).net ≡ (out-NetState old).net
  pub marks : (out-NetState new).marks ≡ (out-NetState old).marks
  pub vals : (out-NetState new).vals ≡ (out-NetState old).vals
  pub lists : length (out-NetState new).items.items ≡ length (out-NetState old).items.items

abbrev pub row_or_none : Option (Vec Node Global) → List Node
row_or_none None = []
row_or_none (Some v) = v.items

-- the items of a task
abbrev pub items_in : NetState → ℕ → List Node
items_in s t = row_or_none (slice_get (out-NetState s).items.items t)

-- its own part, and each list but that of task t
pub record KeepsOthers (old new : NetState) (t : ℕ) : Type 0 where
  pub own : KeepsOwn old new
  pub others : (k : ℕ) → (k ≡ t → ⊥) → slice_get (out-NetState new).items.items k ≡ slice_get (out-NetState old).items.items k

-- ---- items that go

-- no identity more than those of old stands in new
abbrev pub NoneMore : NetState → NetState → Type 0
NoneMore old new = (i : Ident) (js : List Ident) → AreChildren i (ids old ++ js) → AreChildren i (ids new ++ js)

-- Once all items of task t are dropped, a map that showed old shows new.
abbrev pub LosesTask : NetState → NetState → ℕ → Type 0
LosesTask old new t =
    (names : ℕ → List ℕ) (s : State) (i : Ident) (beside : Entries) → IsNetAt i old → StandsBeside i (ids old) beside
    → ShowsNet names s.sites i beside old → ShowsNet names (drop_all s.sites (idents (items_of s i t))) i beside new

-- Once all under an identity is dropped that is one number longer than the net's, a map that showed old shows new.
abbrev pub LosesItem : NetState → NetState → Ident → Type 0
LosesItem old new id =
    (names : ℕ → List ℕ) (m : Sites) (i : Ident) (beside : Entries) → length id ≡ length i + 1 → IsNetAt i old → StandsBeside i (ids old) beside
    → ShowsNet names m i beside old → ShowsNet names (drop m id) i beside new

-- Task t has no item any more, and each other task has what it had.
pub record EmptiesList (old new : NetState) (t : ℕ) : Type 0 where
  pub keeps : KeepsOthers old new t
  pub empty : items_in new t ≡ []

-- The item at a place, by its task and its place in the list, is gone from its list, and each other task has what it had.
pub record TakesOut (old new : NetState) (p : ℕ × ℕ) : Type 0 where
  pub keeps : KeepsOthers old new p.0
  pub rest : items_in new p.0 ≡ remove (items_in old p.0) p.1

-- ---- one item more

-- each item of the list of n's task has an identity before that of n
abbrev pub IsLast : NetState → Node → Type 0
IsLast s n = Each (λ x. T (is_lt (lexical (out-Node x).id (out-Node n).id))) (items_in s (out-Node n).task)

-- what may stand directly below i with n beside the items of old and js
abbrev pub MakesRoom : NetState → NetState → Node → Type 0
MakesRoom old new n =
    (i : Ident) (js : List Ident) → AreChildren i (ids old ++ js) → IsChild i (out-Node n).id → Each (λ k. (out-Node n).id ≡ k → ⊥) (ids old ++ js)
    → AreChildren i (ids new ++ js)

-- Once n's site stands at its identity, where nothing stood, a map that showed old shows new.
abbrev pub GainsItem : NetState → NetState → Node → Type 0
GainsItem old new n =
    (names : ℕ → List ℕ) (m : Sites) (i : Ident) (beside : Entries) → IsTrue (strictly_under (out-Node n).id i) → get m (out-Node n).id ≡ None
    → ShowsNet names m i beside old → ShowsNet names (insert m (out-Node n).id (item_site names n)) i beside new

-- new is the net old with item n more: n comes last in the list of its task, and all else is as it was. It is well boxed, n stands
-- beside the others, and a map that shows old shows new with n's site at its identity.
pub record AddsItem (old new : NetState) (n : Node) : Type 0 where
  pub keeps : KeepsOthers old new (out-Node n).task
  pub last : items_in new (out-Node n).task ≡ items_in old (out-Node n).task ++ (n ∷ [])
  pub boxed : IsBoxedNet new
  pub children : MakesRoom old new n
  pub shows : GainsItem old new n
