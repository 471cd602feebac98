-- What a forest means after a change, by what it meant before. Specifications have each name.
use Rattle.std.specs.Prelude.{◌≡◌, List, ℕ}
use Rattle.yw_sites.specs.Entries.{Gains}
use Rattle.yw_state.specs.After.{stands, with_sites, without_items}
use Rattle.yw_state.specs.Identity.{Ident}
use Rattle.yw_state.specs.Map.{insert, update}
use Rattle.yw_state.specs.State.{Site, State, bare, bare_but, drop}
use Rattle.yw_tree.specs.Entries.{case_entries, net_part}
use Rattle.yw_tree.specs.Forest.{sites_of}
use Rattle.yw_tree.specs.declared.Case.{Case}
use Rattle.yw_tree.specs.declared.Forest.{Forest}
use Rattle.yw_tree.specs.declared.NetState.{NetState}

-- all at i and under it is gone
abbrev pub Drops : Forest → Forest → Ident → Type 0
Drops old new i = (names : ℕ → List ℕ) → sites_of names new ≡ drop (sites_of names old) i

-- all items of task t in the net at i are gone, with all under them
abbrev pub DropsTask : Forest → Forest → Ident → ℕ → Type 0
DropsTask old new i t = (names : ℕ → List ℕ) (s : State) → s.sites ≡ sites_of names old → with_sites s (sites_of names new) ≡ without_items i s t

-- all strictly under i is gone, and its net
abbrev pub Bares : Forest → Forest → Ident → Type 0
Bares old new i = (names : ℕ → List ℕ) → sites_of names new ≡ bare (sites_of names old) i

-- the same, but what stands at r stays
abbrev pub BaresBut : Forest → Forest → Ident → Ident → Type 0
BaresBut old new i r = (names : ℕ → List ℕ) → sites_of names new ≡ bare_but (sites_of names old) i r

-- one value more stands at k
abbrev pub Gets : Forest → Forest → Ident → ((ℕ → List ℕ) → Site) → Type 0
Gets old new k site = (names : ℕ → List ℕ) → sites_of names new ≡ insert (sites_of names old) k (site names)

-- this net stands at i now, where something stood
abbrev pub GetsNet : Forest → Forest → Ident → NetState → Type 0
GetsNet old new i net = (names : ℕ → List ℕ) → sites_of names new ≡ update (sites_of names old) i (stands (net_part names net))

-- at the case's identity and under it stands what the case says, and elsewhere what stood
abbrev pub GetsCase : Forest → Forest → Case → Type 0
GetsCase old new c = (names : ℕ → List ℕ) → Gains (sites_of names old) c.id (case_entries names c) (sites_of names new)
