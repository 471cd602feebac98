-- What stands at an identity, whether a case, an item or a run, and the net there; and a forest with another in its place.
use Rattle.std.specs.Prelude.{◌≡◌, ◌||◌, ℕ, Bool, false, Option, Some, None, Box, is_some, option_and_then, if◌then◌else◌}
use Rattle.std.specs.declared.alloc.Global.{Global}
use Rattle.yw_state.specs.Identity.{Ident, is_case_ident, same}
use Rattle.yw_base.specs.Identity.{case_number, parent}
use Rattle.yw_tree.specs.Cases.{case_at, with_case}
use Rattle.yw_tree.specs.Forest.{item_of, item_replaced, item_net_replaced, top_replaced, top_of}
use Rattle.yw_tree.specs.Ways.{net_in, net_of_item, place_of, run_in, with_net_in_run, with_run}
use Rattle.yw_tree.specs.declared.Case.{Case}
use Rattle.yw_tree.specs.declared.Forest.{Forest}
use Rattle.yw_tree.specs.declared.NetState.{NetState}
use Rattle.yw_tree.specs.declared.Node.{Node, out-Node, roll-Node}
use Rattle.yw_tree.specs.declared.Run.{Run, out-Run}

-- ---- a run: it stands at a case or at an item

abbrev pub has_run : Ident → Option (Box Run Global) → Bool
has_run id None = false
has_run id (Some b) = same (out-Run b.value).id id

-- the run, where it has this identity
abbrev pub run_at : Ident → Option (Box Run Global) → Option Run
run_at id o = if has_run id o then run_in o else None

abbrev pub run_of_case : Ident → Case → Option Run
run_of_case id c = run_at id c.run

abbrev pub run_of_item : Ident → Node → Option Run
run_of_item id n = run_at id (out-Node n).run

abbrev pub run_at_case : Forest → Ident → Option Run
run_at_case f id = option_and_then (run_of_case id) (case_at (case_number id) f.cases)

abbrev pub run_at_item : Forest → Ident → Option Run
run_at_item f id = option_and_then (run_of_item id) (item_of f (parent id))

-- the run at an identity: that of the case or item at the identity without its last number
abbrev pub run_of : Forest → Ident → Option Run
run_of f id = if is_case_ident id then None else (if is_case_ident (parent id) then run_at_case f id else run_at_item f id)

-- the run that hangs at the case or item at an identity
abbrev pub hung_at : Forest → Ident → Option (Box Run Global)
hung_at f id =
    if is_case_ident id then option_and_then (λ (c : Case). c.run) (case_at (case_number id) f.cases) else
    option_and_then (λ (n : Node). (out-Node n).run) (item_of f id)

abbrev pub case_with_run : Case → Run → Case
case_with_run c w = record c { run = with_run c.run w }

abbrev pub item_with_run : Node → Run → Node
item_with_run n w = roll-Node (record (out-Node n) { run = with_run (out-Node n).run w })

abbrev pub placed_case : Forest → ℕ → Case → Forest
placed_case f n c = record { cases = with_case n f.cases c }

abbrev pub over_case_run : Forest → ℕ → Run → Option Case → Forest
over_case_run f n w None = f
over_case_run f n w (Some c) = placed_case f n (case_with_run c w)

abbrev pub over_item_run : Forest → Ident → Run → Option Node → Forest
over_item_run f j w None = f
over_item_run f j w (Some n) = item_replaced f j (item_with_run n w)

-- the run at an identity is w, and all else is as in f
abbrev pub placed_run : Forest → Ident → Run → Forest
placed_run f id w =
    if is_case_ident (parent id) then over_case_run f (case_number id) w (case_at (case_number id) f.cases) else
    over_item_run f (parent id) w (item_of f (parent id))

-- ---- the net at an identity

abbrev pub net_of_run : Option Run → Option NetState
net_of_run None = None
net_of_run (Some r) = net_in (out-Run r).net

abbrev pub net_at : Forest → Ident → Option NetState
net_at f id =
    if is_case_ident id then top_of f (case_number id) else
    (if is_some (item_of f id) then net_of_item (item_of f id) else net_of_run (run_of f id))

abbrev pub over_run_net : Forest → Ident → NetState → Option Run → Forest
over_run_net f id w None = f
over_run_net f id w (Some r) = placed_run f id (with_net_in_run r w)

-- the net at an identity is w, and all else is as in f
abbrev pub placed_net : Forest → Ident → NetState → Forest
placed_net f id w =
    if is_case_ident id then top_replaced f (case_number id) w else
    (if is_some (item_of f id) then item_net_replaced f id w else over_run_net f id w (run_of f id))

-- ---- whether something stands at an identity

-- the place of the item that leads to an identity in the net at the identity without its last number
abbrev pub item_stands : Forest → Ident → Option (ℕ × ℕ)
item_stands f id = option_and_then (place_of id) (net_at f (parent id))

abbrev pub something_stands : Forest → Ident → Bool
something_stands f id = if is_case_ident id then is_some (case_at (case_number id) f.cases) else is_some (run_of f id) || is_some (item_stands f id)

-- w has what old has but for its own site
pub record Keeps (old w : Node) : Type 0 where
  pub id : (out-Node w).id ≡ (out-Node old).id
  pub task : (out-Node w).task ≡ (out-Node old).task
  pub net : (out-Node w).net ≡ (out-Node old).net
  pub run : (out-Node w).run ≡ (out-Node old).run
