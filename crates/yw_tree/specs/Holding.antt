-- Whether work is held at an identity, and whether a case is urgent, box by box.
use Rattle.std.specs.Prelude.{Bool, Box, List, None, Option, Some, Vec, [], false, if◌then◌else◌, is_none, not, suc, zero, ℕ, ◌&&◌, ◌||◌, ◌∷◌}
use Rattle.std.specs.declared.alloc.Global.{Global}
use Rattle.yw_state.specs.Identity.{Ident}
use Rattle.yw_base.specs.Identity.{case_number}
use Rattle.yw_state.specs.Words.{any_due}
use Rattle.yw_tree.specs.Cases.{case_at}
use Rattle.yw_tree.specs.Forest.{levels}
use Rattle.yw_tree.specs.Ways.{case_inner, inner_of, node_at, place_of, run_leads}
use Rattle.yw_tree.specs.declared.Case.{Case}
use Rattle.yw_tree.specs.declared.Forest.{Forest}
use Rattle.yw_tree.specs.declared.NetState.{NetState, NetState-F, fold-NetState}
use Rattle.yw_tree.specs.declared.Node.{Node, Node-F, fold-Node, out-Node}
use Rattle.yw_tree.specs.declared.Run.{Run, Run-F, fold-Run}

-- ---- held, on the way down to an identity: what is suspended holds, and a run lets go

abbrev pub held_here : Ident → Bool → Node → Bool
held_here id above n = if run_leads id (out-Node n).run then false else above || (out-Node n).suspended

abbrev pub held_below : (NetState → Bool → Bool) → Bool → Option NetState → Bool
held_below next held None = held
held_below next held (Some s) = next s held

abbrev pub held_by_node : (NetState → Bool → Bool) → Ident → Bool → Option Node → Bool
held_by_node next id above None = above
held_by_node next id above (Some n) = held_below next (held_here id above n) (inner_of id n)

abbrev pub held_by_place : (NetState → Bool → Bool) → Ident → NetState → Bool → Option (ℕ × ℕ) → Bool
held_by_place next id s above None = above
held_by_place next id s above (Some p) = held_by_node next id above (node_at s p.0 p.1)

abbrev pub held_in : ℕ → Ident → NetState → Bool → Bool
held_in zero id s above = above
held_in (suc d) id s above = held_by_place (held_in d id) id s above (place_of id s)

abbrev pub held_in_case : Ident → Case → Bool
held_in_case id c = held_below (held_in levels id) (if run_leads id c.run then false else c.suspended) (case_inner id c)

abbrev pub held_by_case : Ident → Option Case → Bool
held_by_case id None = false
held_by_case id (Some c) = held_in_case id c

abbrev pub held_by : Forest → Ident → Bool
held_by f id = held_by_case id (case_at (case_number id) f.cases)

-- ---- urgent: a check is due at a case or an item at which no run hangs, or a run doesn't wait

abbrev pub any : List Bool → Bool
any [] = false
any (b ∷ bs) = b || any bs

abbrev pub any_vec : List (Vec Bool Global) → Bool
any_vec [] = false
any_vec (v ∷ vs) = any v.items || any_vec vs

abbrev pub if_there : Option (Box Bool Global) → Bool
if_there None = false
if_there (Some b) = b.value

abbrev pub urgent_net_step : NetState-F Bool Bool Bool → Bool
urgent_net_step l = any_vec l.items.items

abbrev pub urgent_node_step : Node-F Bool Bool Bool → Bool
urgent_node_step l = any_due l.due && is_none l.run || if_there l.net || if_there l.run

abbrev pub urgent_run_step : Run-F Bool Bool Bool → Bool
urgent_run_step l = not l.waiting || if_there l.net

abbrev pub urgent_net : NetState → Bool
urgent_net = fold-NetState Bool Bool Bool urgent_net_step urgent_node_step urgent_run_step

abbrev pub urgent_node : Node → Bool
urgent_node = fold-Node Bool Bool Bool urgent_net_step urgent_node_step urgent_run_step

abbrev pub urgent_run : Run → Bool
urgent_run = fold-Run Bool Bool Bool urgent_net_step urgent_node_step urgent_run_step

abbrev pub urgent_below : Option (Box NetState Global) → Bool
urgent_below None = false
urgent_below (Some b) = urgent_net b.value

abbrev pub urgent_hung : Option (Box Run Global) → Bool
urgent_hung None = false
urgent_hung (Some b) = urgent_run b.value

abbrev pub urgent_case : Case → Bool
urgent_case c = any_due c.due && is_none c.run || urgent_net c.net || urgent_hung c.run

abbrev pub urgent_at : Option Case → Bool
urgent_at None = false
urgent_at (Some c) = urgent_case c
