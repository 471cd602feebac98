-- A forest that grows by rows whose identities ascend.
use Rattle.std.specs.Ordering.{is_lt}
use Rattle.std.specs.Prelude.{◌≡◌, ℕ, List, [], Bool, true, false, T, Box, Option, Some, None, is_none, is_some, IsSomeAnd}
use Rattle.std.specs.declared.alloc.Global.{Global}
use Rattle.yw_base.specs.Identity.{is_identity, parent}
use Rattle.yw_state.specs.After.{stands}
use Rattle.yw_state.specs.Identity.{Ident}
use Rattle.yw_state.specs.Map.{get, lexical}
use Rattle.yw_state.specs.State.{Site}
use Rattle.yw_tree.specs.Becomes.{Gets, GetsNet}
use Rattle.yw_tree.specs.Boxed.{IsBoxedNet}
use Rattle.yw_tree.specs.Coming.{HasTask}
use Rattle.yw_tree.specs.Entries.{item_site, net_part, nodes, run_site}
use Rattle.yw_tree.specs.Forest.{IsForest, sites_of}
use Rattle.yw_tree.specs.Places.{net_at}
use Rattle.yw_tree.specs.Spots.{Part, a_case, an_item, a_run, part_at}
use Rattle.yw_tree.specs.declared.Forest.{Forest}
use Rattle.yw_tree.specs.declared.NetState.{NetState}
use Rattle.yw_tree.specs.declared.Node.{Node, out-Node}
use Rattle.yw_tree.specs.declared.Run.{Run, out-Run}

-- all that stands comes before this identity
abbrev pub AllBefore : Forest → Ident → Type 0
AllBefore f id = (names : ℕ → List ℕ) (j : Ident) → is_some (get (sites_of names f) j) ≡ true → T (is_lt (lexical j id))

-- One value more stands, and comes last.
pub record Grows (old : Forest) (id : Ident) (site : (ℕ → List ℕ) → Site) (new : Forest) : Type 0 where
  pub gets : Gets old new id site
  pub boxed : IsForest new
  pub last : (k : Ident) → T (is_lt (lexical id k)) → AllBefore new k

-- ---- a net that comes with an item or a run

-- It is well boxed, and nothing stands in it.
pub record IsBareNet (net : NetState) : Type 0 where
  pub boxed : IsBoxedNet net
  pub empty : nodes net ≡ []

-- the net stands there now, if there is one
abbrev pub AttachesNet : Forest → Ident → Option (Box NetState Global) → Forest → Type 0
AttachesNet old id None new = new ≡ old
AttachesNet old id (Some b) new = GetsNet old new id b.value

-- with this net, if there is one
abbrev pub with_bare : (ℕ → List ℕ) → Option (Box NetState Global) → Site → Site
with_bare names None x = x
with_bare names (Some b) x = stands (net_part names b.value) x

-- ---- an item

-- The item stands at its identity, with its net; or nothing has changed, and no net that has its task stands where an item may stand.
abbrev pub IsItemGrown : Forest → Node → Option (Box NetState Global) → Bool → Forest → Type 0
IsItemGrown old n net true new = Grows old (out-Node n).id (λ names. with_bare names net (item_site names n)) new
IsItemGrown old n net false new =
    (new ≡ old) × (is_identity (parent (out-Node n).id) ≡ true → ¬ IsSomeAnd (net_at old (parent (out-Node n).id)) (HasTask (out-Node n).task))

-- ---- a run

-- a case or an item at which no run hangs
abbrev pub is_free : Option Part → Bool
is_free None = false
is_free (Some (a_case c)) = is_none c.run
is_free (Some (an_item n)) = is_none (out-Node n).run
is_free (Some (a_run r)) = false

-- The run stands at its identity, with its net; or nothing has changed, and nothing stands above it at which a run may hang.
abbrev pub IsRunGrown : Forest → Run → Option (Box NetState Global) → Bool → Forest → Type 0
IsRunGrown old r net true new = Grows old (out-Run r).id (λ names. with_bare names net (run_site names r)) new
IsRunGrown old r net false new = (new ≡ old) × (is_identity (parent (out-Run r).id) ≡ true → is_free (part_at old (parent (out-Run r).id)) ≡ false)
