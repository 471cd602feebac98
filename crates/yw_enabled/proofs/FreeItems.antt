-- What a state says of the items of a net that stands free.
use Rattle.std.proofs.Common.{List, None, Option, Some, [], ap, refl, suc, sym, true, ℕ, ◌∙◌, ◌∷◌, ◌≡◌, ◌≤◌, length, arith}
use Rattle.std.specs.Prelude.{Vec, not, option_and_then, slice_get, ◌&&◌}
use Rattle.std.specs.declared.alloc.Global.{Global}
use Rattle.yw_enabled.specs.Free.{StandsFree}
use Rattle.yw_enabled.specs.Left.{is_done}
use Rattle.yw_sites.proofs.Prefix.{child_length}
use Rattle.yw_sites.specs.Idents.{Each}
use Rattle.yw_spec.specs.declared.spec.Net.{Net}
use Rattle.yw_spec.specs.declared.task.Task.{Task}
use Rattle.yw_state.proofs.Tests.{map_some, nowhere}
use Rattle.yw_state.specs.Identity.{Ident}
use Rattle.yw_state.specs.Map.{get}
use Rattle.yw_state.specs.Options.{is_some_and}
use Rattle.yw_state.specs.State.{Site, NetAt, State, TaskAt, task_in}
use Rattle.yw_state.specs.Words.{done, is_completed}
use Rattle.yw_still.specs.Still.{task_numbered}
use Rattle.yw_task.proofs.EnterAsk.{its_net, net_with}
use Rattle.yw_task.proofs.ItemLaw.{its_busy, its_site}
use Rattle.yw_task.specs.Standing.{ItemStands}
use Rattle.yw_tree.proofs.FindLaw.{item_shown}
use Rattle.yw_tree.proofs.ItemThere.{item_there, its_child}
use Rattle.yw_tree.proofs.Parents.{identity_short}
use Rattle.yw_base.proofs.Parents.{identity_long}
use Rattle.yw_tree.specs.Entries.{item_part_of, item_site}
use Rattle.yw_tree.specs.Forest.{IsForest, item_of, sites_of}
use Rattle.yw_tree.specs.Places.{net_at}
use Rattle.yw_base.specs.Identity.{is_identity}
use Rattle.yw_state.specs.Well.{NumbersFit}
use Rattle.yw_tree.specs.Shows.{items_in, row_or_none}
use Rattle.yw_tree.specs.Ways.{item_in_row, node_at}
use Rattle.yw_tree.specs.declared.Forest.{Forest}
use Rattle.yw_tree.specs.declared.NetState.{NetState, out-NetState}
use Rattle.yw_tree.specs.declared.Node.{Node, out-Node}

-- what holds of each place of a list holds of each of the list
each_at : {A : Type 0} (Q : A → Type 0) (xs : List A) → ((k : ℕ) (x : A) → slice_get xs k ≡ Some x → Q x) → Each Q xs
each_at Q [] h = tt
each_at Q (x ∷ xs) h = (h 0 x refl, each_at Q xs (λ k y e. h (suc k) y e))

in_row : (o : Option (Vec Node Global)) (k : ℕ) (n : Node) → slice_get (row_or_none o) k ≡ Some n → item_in_row o k ≡ Some n
in_row None k n e = nowhere e
in_row (Some v) k n e = e

-- each item of a net stands, wherever the net does
module _ (names : ℕ → List ℕ) (f : Forest) (s : State) (boxed : IsForest f) (sites : s.sites ≡ sites_of names f) (numbers : NumbersFit s) (i : Ident) (identity : is_identity i ≡ true) (state : NetState) (found : net_at f i ≡ Some state) where
  pub item_stands : (t k : ℕ) (n : Node) → node_at state t k ≡ Some n → ItemStands names f s n
  item_stands t k n at =
      let long : 1 ≤ length i = identity_long i identity in
      let short = identity_short i identity in
      let there : item_of f (out-Node n).id ≡ Some n = item_there f boxed i long short state found t k n at in
      let longer = child_length i (out-Node n).id (its_child f boxed i long short state found t k n at) in
      let its_long : 1 ≤ length (out-Node n).id = omega arith in
      let site : get s.sites (out-Node n).id ≡ Some (item_site names n) = ap (λ m. get m (out-Node n).id) sites ∙ item_shown names f boxed (out-Node n).id its_long n there in
      record {
        boxed = boxed;
        sites = sites;
        identity = numbers.identities (out-Node n).id (item_site names n) site;
        found = there;
      }

module _ (names : ℕ → List ℕ) (f : Forest) (s : State) (i : Ident) (net : Net) (state : NetState) (h : StandsFree names f s i net state) where
  -- it counts by the definitions where it does by the boxes
  is_done_there : (n : Node) → ItemStands names f s n → done s (out-Node n).id (item_part_of n) ≡ is_done n
  unfolding is_done
  is_done_there n stands =
      λ j. is_completed (out-Node n).stage && not (its_busy names f s n stands j) && not (is_some_and (its_site names f s n stands j) (λ (x : Site). x.suspended))

  pub all_done_there : (t : ℕ) → Each (λ n. done s (out-Node n).id (item_part_of n) ≡ is_done n) (items_in state t)
  all_done_there t =
      each_at (λ n. done s (out-Node n).id (item_part_of n) ≡ is_done n) (items_in state t)
      (λ k n e. is_done_there n (item_stands names f s h.stands.boxed h.stands.sites h.numbers i h.stands.identity state h.stands.found t k n (in_row (slice_get (out-NetState state).items.items t) k n e)))

  -- the task with this number
  pub task_is : (t : ℕ) (x : TaskAt) → task_numbered s i t ≡ Some x
      → (task : Task) × (slice_get net.tasks t ≡ Some task) × (record { number = t; task = task; within = net_with names net state } ≡ x)
  task_is t x is =
      map_some (λ (task : Task). record { number = t; task = task; within = net_with names net state }) (slice_get net.tasks t) x
      (sym (ap (option_and_then (λ (n : NetAt). task_in n t)) (its_net names f s i net state h.stands)) ∙ is)
