-- Items come to a net that stands in a state: the state then has the map of the forest with the new net.
use Rattle.std.proofs.Common.{List, [], ap, arith, false, length, refl, subst, sym, true, ℕ, ◌++◌, ◌+◌, ◌∙◌, ◌∷◌, ◌≡◌, ◌≤◌}
use Rattle.std.specs.FinMap.Entries.{find}
use Rattle.std.specs.List.{range_with_len, zip}
use Rattle.std.specs.Prelude.{fold, is_some, option_map}
use Rattle.yw_base.specs.Identity.{under, child}
use Rattle.yw_sites.proofs.Children.{children_ends}
use Rattle.yw_sites.proofs.Prefix.{child_strictly, is_child_of}
use Rattle.yw_sites.specs.Entries.{Entries}
use Rattle.yw_sites.specs.Idents.{AreChildren, IsChild}
use Rattle.yw_spec.specs.declared.spec.Net.{Net}
use Rattle.yw_spec.specs.declared.task.Task.{Task}
use Rattle.yw_state.proofs.Tests.{never}
use Rattle.yw_state.specs.After.{add_item, item_checks, with_net as with_part, with_next, with_sites}
use Rattle.yw_state.specs.Identity.{Ident}
use Rattle.yw_state.specs.Map.{get, lexical}
use Rattle.yw_state.specs.State.{Sites, State, TaskAt}
use Rattle.yw_state.specs.Values.{Row}
use Rattle.yw_state.specs.declared.part.Checks.{Checks}
use Rattle.yw_task.proofs.EnterAsk.{here, net_with, shown, task_stands}
use Rattle.yw_task.proofs.ItemPut.{items_put, put_all}
use Rattle.yw_task.proofs.ItemsCome.{HasRoom, HaveCome, all_come, coming}
use Rattle.yw_task.proofs.OwnPart.{overwritten}
use Rattle.yw_task.specs.Enters.{MayGet, PlacesNet}
use Rattle.yw_task.specs.Items.{GetsItems, NothingFrom}
use Rattle.yw_tree.proofs.ItemAdded.{children_more}
use Rattle.yw_tree.proofs.NetHere.{NetHere, same_part}
use Rattle.yw_tree.proofs.Stand.{all_known, each_with}
use Rattle.yw_tree.specs.Boxed.{IsBoxedNet, ids}
use Rattle.yw_tree.specs.Entries.{net_entries, net_part}
use Rattle.yw_tree.specs.Forest.{IsForest, sites_of}
use Rattle.yw_tree.specs.Places.{placed_net}
use Rattle.yw_tree.specs.Shows.{ShowsNet}
use Rattle.yw_tree.specs.declared.Forest.{Forest}
use Rattle.yw_tree.specs.declared.NetState.{NetState}

module _ (names : ℕ → List ℕ) (f : Forest) (s : State) (i : Ident) (net : Net) (old : NetState) (t first : ℕ) (due : Checks) (task : Task) (h : MayGet names f s i net old t first due task) where
  abbrev its : NetHere f i old (placed_net f i)
  its = here names f s i net old h.stands

  -- each of the next numbers is free there
  start_room : HasRoom names i ((here names f s i net old h.stands).beside names) t due (here names f s i net old h.stands).others old first
  start_room n l =
      let at = here names f s i net old h.stands in
      let es : Entries = (net_entries names old).1 ++ at.beside names in
      let shows = shown names f s i net old h.stands in
      children_more i (child i n) (ids old) at.others at.here (n, refl)
      (each_with (IsChild i) (λ k. is_some (find lexical k es) ≡ true) (λ k. child i n ≡ k → ⊥)
      (λ k c stands e.
      never (sym (ap is_some (h.fresh n l)) ∙ ap (λ z. is_some (get s.sites z)) e ∙ ap is_some (shows.below k (child_strictly k i (is_child_of k i c))) ∙ stands))
      (ids old ++ at.others) at.here.0 (all_known names old (at.beside names) at.others (at.known names)))

  -- a net with these items stands there, and more items come to it
  module _ (mid : NetState) (m : Sites) (boxed : IsBoxedNet mid) (same_ids : ids mid ≡ ids old) (shows : ShowsNet names m i ((here names f s i net old h.stands).beside names) mid) (own : get m i ≡ option_map (with_part (λ _. net_part names mid)) (get s.sites i)) (elsewhere : (q : Ident) → under q i ≡ false → get m q ≡ get s.sites q) (fresh : NothingFrom m i first) where
    abbrev x : TaskAt
    x = record { number = t; task = task; within = net_with names net old }

    have_come : (rows : List Row) (new : NetState) → GetsItems i t due first rows mid new → HaveCome names i ((here names f s i net old h.stands).beside names) t due (here names f s i net old h.stands).others m rows first new
    have_come rows new gets =
        let at = here names f s i net old h.stands in
        all_come names i (at.beside names) t due at.others rows first mid new m gets boxed
        (λ n l. subst (λ z. AreChildren i (z ++ (child i n ∷ at.others))) (sym same_ids) (start_room n l))
        fresh shows

    placed_map : (rows : List Row) (new : NetState) → GetsItems i t due first rows mid new
        → (sites_of names (placed_net f i new) ≡ put_all i (coming names i ((here names f s i net old h.stands).beside names) t due (here names f s i net old h.stands).others) first rows m) × IsForest (placed_net f i new)
    placed_map rows new gets =
        let at = here names f s i net old h.stands in
        let come = have_come rows new gets in
        let p = net_part names new in
        let now : Sites = put_all i (coming names i (at.beside names) t due at.others) first rows m in
        at.lift new come.boxed (room_after at.others come.room) names now come.shows
        (sym (same_part p (get now i) come.shows.part)
        ∙ ap (option_map (with_part (λ _. p))) (come.here ∙ own)
        ∙ overwritten (λ _. net_part names mid) p (get s.sites i)
        ∙ ap (λ z. option_map (with_part (λ _. p)) (get z i)) h.stands.sites)
        (λ q u. come.elsewhere q u ∙ elsewhere q u ∙ ap (λ z. get z q) h.stands.sites)
      where
        room_after : (others : List Ident) → ((n : ℕ) → first + length rows ≤ n → AreChildren i (ids new ++ (child i n ∷ others))) → AreChildren i (ids new ++ others)
        room_after others room = let next : List Ident = child i (first + length rows) ∷ [] in children_ends i (ids new) next others (room (first + length rows) (omega arith))

    -- the definitions' items are put in the map one after another
    pub items_placed : (rows : List Row) (new : NetState) (next : ℕ) → GetsItems i t due first rows mid new
        → PlacesNet names f s (with_next (fold (add_item x i (item_checks s x)) (with_sites s m) (zip (range_with_len first (length rows)) rows)) next) i new next
    items_placed rows new next gets =
        let placed = placed_map rows new gets in
        let checks : due ≡ item_checks s x = h.due_are x (task_stands names f s i net old h.stands h.spec h.within t task h.task_is) in
        record {
          map = ap (λ (d : Checks). with_next (fold (add_item x i d) (with_sites s m) (zip (range_with_len first (length rows)) rows)) next) (sym checks)
              ∙ ap (λ u. with_next u next) (items_put x i due rows first (with_sites s m) ∙ ap (with_sites s) (sym placed.0));
          kept = placed.1;
        }
