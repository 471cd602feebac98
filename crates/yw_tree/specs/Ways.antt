-- The way down to an item, box by box.
use Rattle.std.specs.Prelude.{Bool, Box, List, None, Option, Some, Vec, [], cond, false, if◌then◌else◌, length, nat_lt, option_and_then, option_map, slice_get, suc, zero, ℕ, ◌+◌, ◌-◌, ◌/◌, ◌∷◌}
use Rattle.std.specs.Ordering.{is_le}
use Rattle.std.specs.Vec.{with_item}
use Rattle.std.specs.declared.alloc.Global.{Global}
use Rattle.yw_base.specs.Identity.{under}
use Rattle.yw_state.specs.Identity.{Ident, same}
use Rattle.yw_state.specs.Map.{lexical}
use Rattle.yw_tree.specs.declared.Case.{Case}
use Rattle.yw_tree.specs.declared.NetState.{NetState, out-NetState, roll-NetState}
use Rattle.yw_tree.specs.declared.Node.{Node, out-Node, roll-Node}
use Rattle.yw_tree.specs.declared.Run.{Run, out-Run, roll-Run}

-- ---- an item of a net, by the number of its list and its place there

abbrev pub item_in_row : Option (Vec Node Global) → ℕ → Option Node
item_in_row None i = None
item_in_row (Some ns) i = slice_get ns.items i

abbrev pub node_at : NetState → ℕ → ℕ → Option Node
node_at s t i = item_in_row (slice_get (out-NetState s).items.items t) i

abbrev pub with_row : Vec (Vec Node Global) Global → ℕ → ℕ → Node → Option (Vec Node Global) → Vec (Vec Node Global) Global
with_row rows t i w None = rows
with_row rows t i w (Some ns) = with_item rows t (with_item ns i w)

-- with w in its place
abbrev pub with_node : NetState → ℕ → ℕ → Node → NetState
with_node s t i w =
    let l = out-NetState s in
    roll-NetState (record (out-NetState s) { items = with_row l.items t i w (slice_get l.items.items t) })

-- ---- the item of a net that leads to an identity, that is, whose own is a front of it. A list ascends, so of each list one item is looked at: the
-- last that doesn't come after the identity, found by halves

abbrev pub leads : Ident → Node → Bool
leads id n = under id (out-Node n).id

-- n comes before the identity in the order of identities, or has it
abbrev pub comes_by : Ident → Option Node → Bool
comes_by id None = false
comes_by id (Some n) = is_le (lexical (out-Node n).id id)

-- the place of the last that comes by an identity, of so many items from one place on, in so many steps at most
abbrev pub last_by : ℕ → Ident → List Node → ℕ → ℕ → ℕ
last_by zero id ns low size = low
last_by (suc d) id ns low size =
    if nat_lt 1 size then last_by d id ns (if comes_by id (slice_get ns (low + size / 2)) then low + size / 2 else low) (size - size / 2) else low

abbrev pub last_place : Ident → List Node → ℕ
last_place id ns = last_by (length ns) id ns 0 (length ns)

abbrev pub if_leads : Ident → ℕ → Option Node → Option ℕ
if_leads id k None = None
if_leads id k (Some n) = if leads id n then Some k else None

abbrev pub place_in : Ident → List Node → Option ℕ
place_in id ns = if_leads id (last_place id ns) (slice_get ns (last_place id ns))

abbrev pub next_list : ℕ × ℕ → ℕ × ℕ
next_list p = (suc p.0, p.1)

abbrev pub or_later : Option ℕ → Option (ℕ × ℕ) → Option (ℕ × ℕ)
or_later None later = option_map next_list later
or_later (Some i) later = Some (0, i)

abbrev pub place_among : Ident → List (Vec Node Global) → Option (ℕ × ℕ)
place_among id [] = None
place_among id (v ∷ vs) = or_later (place_in id v.items) (place_among id vs)

abbrev pub place_of : Ident → NetState → Option (ℕ × ℕ)
place_of id s = place_among id (out-NetState s).items.items

-- ---- what stands at an item, and in its place another

abbrev pub with_net : Option (Box NetState Global) → NetState → Option (Box NetState Global)
with_net None w = None
with_net (Some b) w = Some (record { ptr = b.ptr; alloc = b.alloc; value = w })

abbrev pub with_run : Option (Box Run Global) → Run → Option (Box Run Global)
with_run None w = None
with_run (Some b) w = Some (record { ptr = b.ptr; alloc = b.alloc; value = w })

abbrev pub net_in : Option (Box NetState Global) → Option NetState
net_in None = None
net_in (Some b) = Some b.value

abbrev pub run_in : Option (Box Run Global) → Option Run
run_in None = None
run_in (Some b) = Some b.value

-- whether the run leads to an identity
abbrev pub run_leads : Ident → Option (Box Run Global) → Bool
run_leads id None = false
run_leads id (Some b) = under id (out-Run b.value).id

abbrev pub net_in_run : Option (Box Run Global) → Option NetState
net_in_run None = None
net_in_run (Some b) = net_in (out-Run b.value).net

abbrev pub with_net_in_run : Run → NetState → Run
with_net_in_run r w = roll-Run (record (out-Run r) { net = with_net (out-Run r).net w })

abbrev pub run_with_net : Option (Box Run Global) → NetState → Option (Box Run Global)
run_with_net None w = None
run_with_net (Some b) w = Some (record { ptr = b.ptr; alloc = b.alloc; value = with_net_in_run b.value w })

-- the net below an item on the way to an identity: its own, or that of its run
abbrev pub inner_of : Ident → Node → Option NetState
inner_of id n = cond (run_leads id (out-Node n).run) (net_in_run (out-Node n).run) (net_in (out-Node n).net)

abbrev pub with_inner : Ident → Node → NetState → Node
with_inner id n w = cond (run_leads id (out-Node n).run)
    (roll-Node (record (out-Node n) { run = run_with_net (out-Node n).run w }))
    (roll-Node (record (out-Node n) { net = with_net (out-Node n).net w }))

-- the same for a case
abbrev pub case_inner : Ident → Case → Option NetState
case_inner id c = cond (run_leads id c.run) (net_in_run c.run) (Some c.net)

abbrev pub with_case_inner : Ident → Case → NetState → Case
with_case_inner id c w = cond (run_leads id c.run) (record c { run = run_with_net c.run w }) (record c { net = w })

-- ---- the item at an identity, so many levels down at most

abbrev pub item_below : (NetState → Option Node) → Ident → Node → Option Node
item_below next id n = if same (out-Node n).id id then Some n else option_and_then next (inner_of id n)

abbrev pub item_at_place : (NetState → Option Node) → Ident → NetState → ℕ × ℕ → Option Node
item_at_place next id s p = option_and_then (item_below next id) (node_at s p.0 p.1)

abbrev pub item_in : ℕ → Ident → NetState → Option Node
item_in zero id s = None
item_in (suc d) id s = option_and_then (item_at_place (item_in d id) id s) (place_of id s)

-- ---- with w in its place

abbrev pub over_inner : (NetState → NetState) → Ident → Node → Option NetState → Node
over_inner next id n None = n
over_inner next id n (Some s) = with_inner id n (next s)

abbrev pub over_node : (NetState → NetState) → Ident → Node → Node → Node
over_node next id w n = if same (out-Node n).id id then w else over_inner next id n (inner_of id n)

abbrev pub over_at : (NetState → NetState) → Ident → Node → NetState → ℕ × ℕ → Option Node → NetState
over_at next id w s p None = s
over_at next id w s p (Some n) = with_node s p.0 p.1 (over_node next id w n)

abbrev pub over_place : (NetState → NetState) → Ident → Node → NetState → Option (ℕ × ℕ) → NetState
over_place next id w s None = s
over_place next id w s (Some p) = over_at next id w s p (node_at s p.0 p.1)

abbrev pub placed_in : ℕ → Ident → Node → NetState → NetState
placed_in zero id w s = s
placed_in (suc d) id w s = over_place (placed_in d id w) id w s (place_of id s)

-- ---- the net of an item

abbrev pub net_of_item : Option Node → Option NetState
net_of_item None = None
net_of_item (Some n) = net_in (out-Node n).net

abbrev pub renewed : Node → NetState → Node
renewed n w = roll-Node (record (out-Node n) { net = with_net (out-Node n).net w })
