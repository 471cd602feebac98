-- What is lent of a forest, and what the map is once the loan ends: also where the net or the run of what was lent is another.
use Rattle.std.specs.FinMap.Entries.{find}
use Rattle.std.specs.Prelude.{◌≡◌, ◌++◌, ◌∷◌, ℕ, List, Some, false, is_some, option_map, true}
use Rattle.yw_base.specs.Identity.{under}
use Rattle.yw_sites.specs.Entries.{Entries, Gains}
use Rattle.yw_sites.specs.Idents.{AreChildren, Each}
use Rattle.yw_state.specs.After.{with_net}
use Rattle.yw_state.specs.Identity.{Ident, case_ident}
use Rattle.yw_state.specs.Map.{get, lexical, update}
use Rattle.yw_state.specs.State.{Site, Sites}
use Rattle.yw_tree.specs.Boxed.{Held, IsBoxedCase, IsBoxedNet, IsBoxedRun, ids, net_ids, run_ids}
use Rattle.yw_tree.specs.Cases.{case_at}
use Rattle.yw_tree.specs.Entries.{below_case, below_item, below_net, case_site, item_site, net_part, run_site}
use Rattle.yw_tree.specs.Forest.{IsForest, item_of, item_replaced, sites_of}
use Rattle.yw_tree.specs.Places.{net_at, placed_case, placed_net, placed_run, run_of}
use Rattle.yw_tree.specs.Shows.{ShowsNet, StandsBeside}
use Rattle.yw_tree.specs.declared.Case.{Case}
use Rattle.yw_tree.specs.declared.Forest.{Forest}
use Rattle.yw_tree.specs.declared.NetState.{NetState}
use Rattle.yw_tree.specs.declared.Node.{Node, out-Node}
use Rattle.yw_tree.specs.declared.Run.{Run, out-Run}

-- ---- what may stand at an identity: it has the identity, and its net and its run are well boxed and fit directly below

pub record FitsCase (n : ℕ) (c : Case) : Type 0 where
  pub id : c.id ≡ case_ident n
  pub boxed : IsBoxedCase c

-- an item of task t
pub record FitsItem (i : Ident) (t : ℕ) (n : Node) : Type 0 where
  pub id : (out-Node n).id ≡ i
  pub task : (out-Node n).task ≡ t
  pub children : AreChildren i (net_ids (out-Node n).net ++ run_ids (out-Node n).run)
  pub net : Held IsBoxedNet (out-Node n).net
  pub run : Held IsBoxedRun (out-Node n).run

pub record FitsRun (i : Ident) (r : Run) : Type 0 where
  pub id : (out-Run r).id ≡ i
  pub children : AreChildren i (net_ids (out-Run r).net)
  pub net : Held IsBoxedNet (out-Run r).net

-- ---- what the map has of it, by the names of specifications: its own site, and what is below it

abbrev pub Told : Type 0
Told = (ℕ → List ℕ) → Site × Entries

abbrev pub of_case : Case → Told
of_case c names = (case_site names c, below_case names c)

abbrev pub of_item : Node → Told
of_item n names = (item_site names n, below_item names n)

abbrev pub of_run : Run → Told
of_run r names = (run_site names r, below_net names (out-Run r).net)

-- At i and under it the map of f has what the part tells that was there, and the map of g what the part tells that is there; elsewhere
-- the map of g is that of f. Where what is below is as before, the map changes at i alone. And g is well boxed.
pub record Replaces (f g : Forest) (i : Ident) (was is : Told) : Type 0 where
  pub stood : (names : ℕ → List ℕ) (q : Ident) → under q i ≡ true → get (sites_of names f) q ≡ find lexical q ((i, (was names).0) ∷ (was names).1)
  pub stands : (names : ℕ → List ℕ) → Gains (sites_of names f) i ((i, (is names).0) ∷ (is names).1) (sites_of names g)
  pub own : (names : ℕ → List ℕ) (h : Site → Site) → (is names).0 ≡ h (was names).0 → (is names).1 ≡ (was names).1
      → sites_of names g ≡ update (sites_of names f) i h
  pub kept : IsForest g

-- ---- what is lent: the case, item or run old stands there and fits, and any other that fits there may be placed there

pub record LentCase (f : Forest) (n : ℕ) (old : Case) : Type 0 where
  pub fits : FitsCase n old
  pub placed : (d : Case) → FitsCase n d → Replaces f (placed_case f n d) (case_ident n) (of_case old) (of_case d)

pub record LentItem (f : Forest) (i : Ident) (old : Node) : Type 0 where
  pub fits : FitsItem i (out-Node old).task old
  pub placed : (w : Node) → FitsItem i (out-Node old).task w → Replaces f (item_replaced f i w) i (of_item old) (of_item w)

pub record LentRun (f : Forest) (i : Ident) (old : Run) : Type 0 where
  pub fits : FitsRun i old
  pub placed : (w : Run) → FitsRun i w → Replaces f (placed_run f i w) i (of_run old) (of_run w)

-- The net s stands at i. What stands beside it, and beside any identities that fit there, as those of another net; and what the forest
-- means with another net there.
pub record NetHere (f : Forest) (i : Ident) (s : NetState) (placed : NetState → Forest) : Type 0 where
  pub boxed : IsBoxedNet s
  pub others : List Ident
  pub here : AreChildren i (ids s ++ others)
  pub beside : (ℕ → List ℕ) → Entries
  pub stands : (names : ℕ → List ℕ) → StandsBeside i (ids s) (beside names)
  pub stands_with : (js : List Ident) → AreChildren i (js ++ others) → (names : ℕ → List ℕ) → StandsBeside i js (beside names)
  pub shows : (names : ℕ → List ℕ) → ShowsNet names (sites_of names f) i (beside names) s
  pub known : (names : ℕ → List ℕ) → Each (λ j. is_some (find lexical j (beside names)) ≡ true) others
  pub lift : (w : NetState) → IsBoxedNet w → AreChildren i (ids w ++ others) → (names : ℕ → List ℕ) (m : Sites) → ShowsNet names m i (beside names) w
      → get m i ≡ option_map (with_net (λ _. net_part names w)) (get (sites_of names f) i) → ((q : Ident) → under q i ≡ false → get m q ≡ get (sites_of names f) q)
      → (sites_of names (placed w) ≡ m) × IsForest (placed w)

-- ---- what is left by the loan of what stands there, in a well boxed forest

abbrev pub PlacedCase : Forest → ℕ → Type 0
PlacedCase f n = IsForest f → (old : Case) → case_at n f.cases ≡ Some old → LentCase f n old

abbrev pub PlacedItem : Forest → Ident → Type 0
PlacedItem f i = IsForest f → (old : Node) → item_of f i ≡ Some old → LentItem f i old

abbrev pub PlacedRun : Forest → Ident → Type 0
PlacedRun f i = IsForest f → (old : Run) → run_of f i ≡ Some old → LentRun f i old

abbrev pub PlacedNet : Forest → Ident → Type 0
PlacedNet f i = IsForest f → (s : NetState) → net_at f i ≡ Some s → NetHere f i s (placed_net f i)
