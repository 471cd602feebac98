-- What an entry does: tokens go, and items come.
use Rattle.std.proofs.Common.{List, Option, Some, [], ap, arith, false, length, lt-ltb, subst, sym, ℕ, ◌+◌, ◌∙◌, ◌∷◌, ◌≡◌}
use Rattle.std.specs.Option.{option_map_or}
use Rattle.std.specs.Prelude.{Vec, fold, nat_lt, option_map, slice_get, unwrap_or}
use Rattle.std.specs.declared.alloc.Global.{Global}
use Rattle.yw_base.specs.Identity.{under, child}
use Rattle.yw_mark.specs.Taking.{taken_places}
use Rattle.yw_mark.specs.declared.join.Taken.{Taken}
use Rattle.yw_sites.proofs.Prefix.{under_refl}
use Rattle.yw_spec.specs.Net.{places_before}
use Rattle.yw_spec.specs.declared.spec.Net.{Net}
use Rattle.yw_spec.specs.declared.task.Task.{Task}
use Rattle.yw_state.proofs.MapLemmas.{by_name, get-update_other, get-update_same}
use Rattle.yw_state.proofs.Tests.{never, some_same}
use Rattle.yw_state.specs.After.{enter, enter_with, one_less, where_some, with_net as with_part}
use Rattle.yw_state.specs.Events.{after}
use Rattle.yw_state.specs.Identity.{Ident}
use Rattle.yw_state.specs.Map.{get, update}
use Rattle.yw_state.specs.State.{NetPart, Sites, State, TaskAt, task_at}
use Rattle.yw_state.specs.Values.{Row}
use Rattle.yw_state.specs.declared.part.Checks.{Checks}
use Rattle.yw_task.proofs.EnterAsk.{here, net_with, shown, task_stands}
use Rattle.yw_task.proofs.ItemPut.{not_child}
use Rattle.yw_task.proofs.OwnPart.{overwritten, same_ids, shows_changed, still_boxed}
use Rattle.yw_task.proofs.Placing.{items_placed}
use Rattle.yw_task.proofs.RoomLaw.{roomy_boxed, roomy_ids, roomy_shows}
use Rattle.yw_task.specs.Asked.{is_active}
use Rattle.yw_task.specs.Enters.{Enters, PlacesNet}
use Rattle.yw_task.specs.Giving.{entry_rows}
use Rattle.yw_task.specs.Items.{AreBefore, LosesTokens, NothingFrom, row_of}
use Rattle.yw_task.specs.Room.{GetsListAndItems}
use Rattle.yw_tree.proofs.NetHere.{same_part}
use Rattle.yw_tree.specs.Boxed.{IsBoxedNet}
use Rattle.yw_tree.specs.Entries.{net_part}
use Rattle.yw_tree.specs.Shows.{row_or_none}
use Rattle.yw_tree.specs.declared.NetState.{NetState, NetState-F, out-NetState}
use Rattle.yw_tree.specs.declared.Node.{Node}
use Rattle.yw_tree.specs.declared.Run.{Run}

-- the input places of the task with this number
before_is : (net : Net) (t : ℕ) (task : Task) → slice_get net.tasks t ≡ Some task → places_before net t ≡ task.before
before_is net t task at = ap (λ (o : Option Task). option_map_or (λ (u : Task). u.before) o []) at

-- before all items that come to a task that isn't active
before_none : (i : Ident) (first : ℕ) (ns : List Node) → nat_lt 0 (length ns) ≡ false → AreBefore i first ns
before_none i first [] idle = tt
before_none i first (n ∷ ns) idle = never (sym idle ∙ lt-ltb 0 (length (n ∷ ns)) (omega arith))

pub none_before : (old mid : NetState) (i : Ident) (first t : ℕ) → ◌≡◌ {A = Vec (Vec Node Global) Global} (out-NetState mid).items (out-NetState old).items → is_active old t ≡ false → AreBefore i first (row_of mid t)
none_before old mid i first t same idle =
    subst (λ (v : Vec (Vec Node Global) Global). AreBefore i first (row_or_none (slice_get v.items t))) (sym same) (before_none i first (row_of old t) idle)

pub enters : (net : Net) (old mid new : NetState) (i : Ident) (t : ℕ) (u : Task) → slice_get net.tasks t ≡ Some u → (taken : Taken) (first : ℕ) (due : Checks) (rows : List Row) (count : ℕ) → IsBoxedNet old
    → LosesTokens (taken_places (out-NetState old).marks (places_before net t) taken) old mid → rows ≡ entry_rows u (out-NetState old).vals → count ≡ length rows → GetsListAndItems i t due first rows mid new
    → Enters net old i t taken first due new count
unfolding after
enters net old mid new i t u at taken first due rows count boxed loses rows_are count_is gets = λ names f s said task places h places_are.
    let x : TaskAt = record { number = t; task = task; within = net_with names net old } in
    let marks : List ℕ = (out-NetState old).marks in
    let cs : List ℕ = taken_places marks task.before taken in
    let less : NetPart → NetPart = λ n. record n { tokens = fold one_less n.tokens cs } in
    let e : LosesTokens cs old mid = subst (λ z. LosesTokens (taken_places marks z taken) old mid) (before_is net t task h.task_is) loses in
    let items = ap (λ (l : NetState-F NetState Node Run). l.items) e in
    let m : Sites = update s.sites i (with_part less) in
    let roomy : NetState = gets.roomy in
    let p : NetPart = net_part names roomy in
    let is_less : net_part names mid ≡ less (net_part names old) = ap (λ (l : NetState-F NetState Node Run). record { spec = names l.spec; net = l.net; vals = l.vals; tokens = l.marks }) e in
    let beside = (here names f s i net old h.stands).beside names in
    let shows = roomy_shows t mid roomy gets.room names m i beside (shows_changed old mid items names less is_less s.sites i beside (shown names f s i net old h.stands)) in
    let own : get m i ≡ option_map (with_part (λ _. p)) (get s.sites i) =
    sym (same_part p (get m i) shows.part) ∙ ap (option_map (with_part (λ _. p))) (get-update_same by_name s.sites i (with_part less)) ∙ overwritten less p (get s.sites i) in
    let elsewhere : (q : Ident) → under q i ≡ false → get m q ≡ get s.sites q =
    λ q off. get-update_other by_name s.sites i (with_part less) q (λ same. never (sym off ∙ ap (λ z. under z i) same ∙ under_refl i)) in
    let fresh : NothingFrom m i first = λ n l. get-update_other by_name s.sites i (with_part less) (child i n) (λ same. not_child i n (sym same)) ∙ h.fresh n l in
    let placed = items_placed names f s i net old t first due task h roomy m (roomy_boxed t mid roomy gets.room (still_boxed old mid items boxed))
    (roomy_ids t mid roomy gets.room ∙ same_ids old mid items) shows own elsewhere fresh rows new (first + length rows) gets.items in
    let vals = (out-NetState old).vals in
    let same : entry_rows task vals ≡ rows = ap (λ (z : Task). entry_rows z vals) (some_same task u (sym h.task_is ∙ at)) ∙ sym rows_are in
    let done : where_some (task_at s i task.name) s (enter s i places first) ≡ enter_with s i x first cs rows =
    ap (λ o. where_some o s (enter s i places first)) (task_stands names f s i net old h.stands h.spec h.within t task h.task_is)
    ∙ ap (λ (o : Option (List ℕ)). enter_with s i x first (unwrap_or o []) (entry_rows task vals)) places_are
    ∙ ap (enter_with s i x first cs) same in
    subst (λ n. PlacesNet names f s (where_some (task_at s i task.name) s (enter s i places first)) i new (first + n)) (sym count_is)
    (subst (λ (z : State). PlacesNet names f s z i new (first + length rows)) (sym done) placed)
