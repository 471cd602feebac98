-- A net that gets lists without items: what a map shows of it stays.
use Rattle.std.proofs.Common.{List, Some, [], ap, arith, length, length-append, map, refl, set, subst, suc, sym}
use Rattle.std.proofs.Common.{zero, ℕ, ◌++◌, ◌+◌, ◌-◌, ◌<◌, ◌∙◌, ◌∷◌, ◌≡◌, ◌≤◌}
use Rattle.std.proofs.lemmas.List.{length-map}
use Rattle.std.specs.FinMap.Entries.{find}
use Rattle.std.specs.Prelude.{Vec, slice_get, unwrap_or}
use Rattle.std.specs.declared.alloc.Global.{Global}
use Rattle.yw_sites.specs.Entries.{Entries}
use Rattle.yw_sites.specs.Idents.{Each}
use Rattle.yw_state.proofs.Tests.{nowhere, some_same}
use Rattle.yw_state.specs.Identity.{Ident}
use Rattle.yw_state.specs.Map.{lexical}
use Rattle.yw_state.specs.State.{NetPart, Sites}
use Rattle.yw_task.specs.Items.{row_of}
use Rattle.yw_task.specs.Room.{AreEmpty, EmptyBehind, GetsList, rows_in}
use Rattle.yw_tree.proofs.Equations.{net_entries_is}
use Rattle.yw_tree.proofs.Induct.{below_every_net}
use Rattle.yw_tree.proofs.Keys.{ids_are, kids}
use Rattle.yw_tree.proofs.Made.{made_net}
use Rattle.yw_tree.specs.Boxed.{AreRows, AtNet, AtNode, AtRun, IsBoxedNet, IsBoxedNode, head, heads, ids}
use Rattle.yw_tree.specs.Coming.{HasTask}
use Rattle.yw_tree.specs.Entries.{flat, net_entries, net_part, node_entries, nodes, row_nodes}
use Rattle.yw_tree.specs.Shows.{ShowsNet, row_or_none}
use Rattle.yw_tree.specs.declared.NetState.{NetState, every_here-NetState, out-NetState, roll-out-NetState}
use Rattle.yw_tree.specs.declared.Node.{Node}

-- ---- lists that come in turn

-- behind the lists of old stand empty ones, and not more than are wanted for one with number t
pub record SomeBehind (t : ℕ) (old new : List (Vec Node Global)) : Type 0 where
  pub more : List (Vec Node Global)
  pub all : new ≡ old ++ more
  pub empty : AreEmpty more
  pub few : length more ≤ t + 1 - length old

-- ---- empty lists

nothing_there : (vs : List (Vec Node Global)) → AreEmpty vs → (k : ℕ) → row_or_none (slice_get vs k) ≡ []
nothing_there [] e k = refl
nothing_there (v ∷ vs) e zero = e.0
nothing_there (v ∷ vs) e (suc k) = nothing_there vs e.1 k

row_behind : (vs more : List (Vec Node Global)) → AreEmpty more → (k : ℕ) → row_or_none (slice_get (vs ++ more) k) ≡ row_or_none (slice_get vs k)
row_behind [] more e k = nothing_there more e k
row_behind (v ∷ vs) more e zero = refl
row_behind (v ∷ vs) more e (suc k) = row_behind vs more e k

no_nodes : (vs : List (Vec Node Global)) → AreEmpty vs → row_nodes vs ≡ []
no_nodes [] e = refl
no_nodes (v ∷ vs) e = λ j. e.0 j ++ no_nodes vs e.1 j

nodes_behind : (vs more : List (Vec Node Global)) → AreEmpty more → row_nodes (vs ++ more) ≡ row_nodes vs
nodes_behind [] more e = no_nodes more e
nodes_behind (v ∷ vs) more e = ap (λ z. v.items ++ z) (nodes_behind vs more e)

no_rows : (n : ℕ) (vs : List (Vec Node Global)) → AreEmpty vs → AreRows n (heads vs)
no_rows n [] e = tt
no_rows n (v ∷ vs) e = subst (λ hs. AreRows n (hs ∷ heads vs)) (sym (ap (map head) e.0)) (tt, tt, no_rows (n + 1) vs e.1)

rows_behind : (n : ℕ) (vs more : List (Vec Node Global)) → AreEmpty more → AreRows n (heads vs) → AreRows n (heads (vs ++ more))
rows_behind n [] more e h = no_rows n more e
rows_behind n (v ∷ vs) more e h = (h.0, h.1, rows_behind (n + 1) vs more e h.2)

-- ---- lists by their items alone

row_by : (vs : List (Vec Node Global)) (k : ℕ) → row_or_none (slice_get vs k) ≡ unwrap_or (slice_get (rows_in vs) k) []
row_by [] k = refl
row_by (v ∷ vs) zero = refl
row_by (v ∷ vs) (suc k) = row_by vs k

abbrev one_list : List (List Node) → List Node
one_list [] = []
one_list (ns ∷ nss) = ns ++ one_list nss

nodes_by : (vs : List (Vec Node Global)) → row_nodes vs ≡ one_list (rows_in vs)
nodes_by [] = refl
nodes_by (v ∷ vs) = ap (λ z. v.items ++ z) (nodes_by vs)

heads_by : (vs : List (Vec Node Global)) → heads vs ≡ map (map head) (rows_in vs)
heads_by [] = refl
heads_by (v ∷ vs) = ap (λ z. map head v.items ∷ z) (heads_by vs)

-- another list with the same items
pub rows_set : (vs : List (Vec Node Global)) (t : ℕ) (v u : Vec Node Global) → slice_get vs t ≡ Some v → u.items ≡ v.items → rows_in (set vs t u) ≡ rows_in vs
rows_set [] t v u at same = nowhere at
rows_set (x ∷ vs) zero v u at same = ap (λ ns. ns ∷ rows_in vs) (same ∙ ap (λ (z : Vec Node Global). z.items) (sym (some_same x v at)))
rows_set (x ∷ vs) (suc t) v u at same = ap (λ nss. x.items ∷ nss) (rows_set vs t v u at same)

-- there is a list with this number
pub is_made : (t : ℕ) (old made : List (Vec Node Global)) → EmptyBehind t old made → t < length made
is_made t old made h =
    let now = ap length h.all ∙ length-append old h.more in
    let many = h.number in
    omega (arith, now, many)

-- ---- the net with room

module _ (t : ℕ) (old new : NetState) (g : GetsList t old new) where
  abbrev was : List (Vec Node Global)
  was = (out-NetState old).items.items

  abbrev now : List (Vec Node Global)
  now = (out-NetState new).items.items

  abbrev h : EmptyBehind t was g.lists.made
  h = g.lists.behind

  pub has_list : HasTask t new
  has_list =
      let made = g.lists.made in
      let its : Vec Node Global → List Node = λ v. v.items in
      let many : length now ≡ length made = sym (length-map now its) ∙ ap length g.lists.same ∙ length-map made its in
      subst (λ n. t < n) (sym many) (is_made t was made h)

  pub roomy_rows : (k : ℕ) → row_of new k ≡ row_of old k
  roomy_rows k =
      row_by now k ∙ ap (λ nss. unwrap_or (slice_get nss k) []) g.lists.same ∙ sym (row_by g.lists.made k)
      ∙ ap (λ vs. row_or_none (slice_get vs k)) h.all ∙ row_behind was h.more h.empty k

  same_nodes : nodes new ≡ nodes old
  same_nodes = nodes_by now ∙ ap one_list g.lists.same ∙ sym (nodes_by g.lists.made) ∙ ap row_nodes h.all ∙ nodes_behind was h.more h.empty

  same_heads : heads now ≡ heads g.lists.made
  same_heads = heads_by now ∙ ap (map (map head)) g.lists.same ∙ sym (heads_by g.lists.made)

  pub roomy_ids : ids new ≡ ids old
  roomy_ids = ids_are new ∙ ap kids same_nodes ∙ sym (ids_are old)

  pub roomy_boxed : IsBoxedNet old → IsBoxedNet new
  roomy_boxed b =
      subst IsBoxedNet (roll-out-NetState new)
      (made_net AtNet AtNode AtRun (out-NetState new)
      (subst (AreRows 0) (sym (same_heads ∙ ap heads h.all)) (rows_behind 0 was h.more h.empty (every_here-NetState AtNet AtNode AtRun old b)))
      (subst (Each IsBoxedNode) (sym same_nodes) (below_every_net AtNet AtNode AtRun old b)))

  pub roomy_part : (names : ℕ → List ℕ) → net_part names new ≡ net_part names old
  roomy_part names = λ j. record { spec = names (g.spec j); net = g.net j; vals = g.vals j; tokens = g.marks j }

  same_below : (names : ℕ → List ℕ) → (net_entries names new).1 ≡ (net_entries names old).1
  same_below names = ap (λ z. z.1) (net_entries_is names new) ∙ ap (flat (node_entries names)) same_nodes ∙ sym (ap (λ z. z.1) (net_entries_is names old))

  -- a map that showed the net shows it with room
  pub roomy_shows : (names : ℕ → List ℕ) (m : Sites) (i : Ident) (beside : Entries) → ShowsNet names m i beside old → ShowsNet names m i beside new
  roomy_shows names m i beside shows = record {
    part = shows.part ∙ ap (λ (p : NetPart). Some p) (sym (roomy_part names));
    below = λ q u. shows.below q u ∙ ap (λ es. find lexical q (es ++ beside)) (sym (same_below names));
  }
