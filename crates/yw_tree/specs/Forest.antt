-- A whole forest: what it means, and a part of it in its place.
use Rattle.std.specs.Prelude.{List, None, Option, Some, option_and_then, option_map, ℕ}
use Rattle.yw_sites.specs.Entries.{Entries}
use Rattle.yw_state.specs.State.{sites_of_entries}
use Rattle.yw_state.specs.Identity.{Ident}
use Rattle.yw_base.specs.Identity.{case_number}
use Rattle.yw_state.specs.State.{Sites}
use Rattle.yw_tree.specs.Boxed.{IsBoxed}
use Rattle.yw_tree.specs.Cases.{case_at, with_case}
use Rattle.yw_tree.specs.Entries.{case_entries, flat}
use Rattle.yw_tree.specs.Ways.{case_inner, item_in, placed_in, renewed, with_case_inner}
use Rattle.yw_tree.specs.declared.Case.{Case}
use Rattle.yw_tree.specs.declared.Forest.{Forest}
use Rattle.yw_tree.specs.declared.NetState.{NetState}
use Rattle.yw_tree.specs.declared.Node.{Node}

-- as many levels as an identity has numbers
unfoldable pub levels : ℕ
levels = 40

abbrev pub entries : (ℕ → List ℕ) → Forest → Entries
entries names f = flat (λ e. case_entries names e.1) f.cases

-- what stands in the forest, by identity; specifications have these names
abbrev pub sites_of : (ℕ → List ℕ) → Forest → Sites
sites_of names f = sites_of_entries (entries names f)

abbrev pub IsForest : Forest → Type 0
IsForest f = IsBoxed f.cases

-- the item at an identity
abbrev pub item_of_case : Ident → Case → Option Node
item_of_case id c = option_and_then (item_in levels id) (case_inner id c)

abbrev pub item_of : Forest → Ident → Option Node
item_of f id = option_and_then (item_of_case id) (case_at (case_number id) f.cases)

abbrev pub over_case_inner : Ident → Node → Case → Option NetState → Case
over_case_inner id w c None = c
over_case_inner id w c (Some s) = with_case_inner id c (placed_in levels id w s)

abbrev pub item_replaced_in_case : Ident → Node → Case → Case
item_replaced_in_case id w c = over_case_inner id w c (case_inner id c)

abbrev pub item_replaced_at : Forest → Ident → Node → Option Case → Forest
item_replaced_at f id w None = f
item_replaced_at f id w (Some c) = record { cases = with_case (case_number id) f.cases (item_replaced_in_case id w c) }

-- the item at an identity is w, and all else is as in f
abbrev pub item_replaced : Forest → Ident → Node → Forest
item_replaced f id w = item_replaced_at f id w (case_at (case_number id) f.cases)

abbrev pub item_part_replaced : Forest → Ident → NetState → Option Node → Forest
item_part_replaced f id w None = f
item_part_replaced f id w (Some n) = item_replaced f id (renewed n w)

-- the net of the item at an identity is w, and all else is as in f
abbrev pub item_net_replaced : Forest → Ident → NetState → Forest
item_net_replaced f id w = item_part_replaced f id w (item_of f id)

abbrev pub top_of : Forest → ℕ → Option NetState
top_of f n = option_map (λ (c : Case). c.net) (case_at n f.cases)

abbrev pub with_top : Forest → ℕ → NetState → Option Case → Forest
with_top f n w None = f
with_top f n w (Some c) = record { cases = with_case n f.cases (record c { net = w }) }

-- the net of case n is w, and all else is as in f
abbrev pub top_replaced : Forest → ℕ → NetState → Forest
top_replaced f n w = with_top f n w (case_at n f.cases)
