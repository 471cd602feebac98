-- What a state says of an item that stands there.
use Rattle.std.proofs.Common.{List, None, Option, Some, ap, false, sym, ℕ, ◌∙◌, ◌≡◌, ◌≤◌, length}
use Rattle.std.proofs.lemmas.Bool.{false_from_ne_true}
use Rattle.std.specs.Prelude.{is_some, option_and_then, option_map, cond}
use Rattle.yw_state.proofs.Tests.{map_some, nowhere, then_some}
use Rattle.yw_state.specs.After.{change, with_sites}
use Rattle.yw_state.specs.Identity.{Ident, is_case_ident}
use Rattle.yw_base.specs.Identity.{case_number, parent}
use Rattle.yw_state.specs.Map.{get, update}
use Rattle.yw_state.specs.State.{ItemAt, ItemPart, NetAt, Site, State, item_at, item_part, net_at, task_in}
use Rattle.yw_state.specs.Words.{busy}
use Rattle.yw_task.specs.Standing.{ItemStands, Places}
use Rattle.yw_tree.proofs.BusyLaw.{busy_is}
use Rattle.yw_tree.proofs.FindLaw.{case_shown, item_shown}
use Rattle.yw_tree.proofs.ForestLaw.{identity_in_case}
use Rattle.yw_tree.proofs.OwnChange.{own_changed}
use Rattle.yw_tree.proofs.Parents.{identity_short}
use Rattle.yw_base.proofs.Parents.{identity_long}
use Rattle.yw_tree.specs.Cases.{case_at}
use Rattle.yw_tree.specs.Entries.{item_part_of, item_site}
use Rattle.yw_tree.specs.Forest.{item_of, item_of_case}
use Rattle.yw_tree.specs.Places.{Keeps}
use Rattle.yw_tree.specs.declared.Case.{Case}
use Rattle.yw_tree.specs.declared.Forest.{Forest}
use Rattle.yw_tree.specs.declared.Node.{Node, out-Node}

abbrev pub with_task : ItemPart → NetAt → Option ItemAt
with_task p n = option_map (λ t. record { part = p; of_task = t }) (task_in n p.task)

its_part : (p : ItemPart) (o : Option NetAt) (x : ItemAt) → option_and_then (with_task p) o ≡ Some x → x.part ≡ p
its_part p None x e = nowhere e
its_part p (Some n) x e = let m = map_some (λ t. record { part = p; of_task = t }) (task_in n p.task) x e in sym (ap (λ (z : ItemAt). z.part) m.2)

module _ (names : ℕ → List ℕ) (f : Forest) (s : State) (n : Node) (h : ItemStands names f s n) where
  abbrev j : Ident
  j = (out-Node n).id

  long : 1 ≤ length (out-Node n).id
  long = identity_long (out-Node n).id h.identity

  -- what the map has there
  pub its_site : get s.sites (out-Node n).id ≡ Some (item_site names n)
  its_site = ap (λ m. get m (out-Node n).id) h.sites ∙ item_shown names f h.boxed (out-Node n).id long n h.found

  pub no_case : is_case_ident (out-Node n).id ≡ false
  no_case = false_from_ne_true _ (λ t.
      let c = then_some (item_of_case (out-Node n).id) (case_at (case_number (out-Node n).id) f.cases) n h.found in
      let top = case_shown names f h.boxed (out-Node n).id long t c.0 c.1 in
      let own = item_shown names f h.boxed (out-Node n).id long n h.found in
      nowhere (ap (option_and_then (λ (x : Site). x.item)) (sym top ∙ own)))

  pub its_busy : busy s (out-Node n).id ≡ is_some (out-Node n).run
  its_busy =
      busy_is f h.boxed (out-Node n).id long (identity_short (out-Node n).id h.identity) names s h.sites
      ∙ ap (λ b. is_some (cond b (option_and_then (λ (c : Case). c.run) (case_at (case_number (out-Node n).id) f.cases)) (option_and_then (λ (m : Node). (out-Node m).run) (item_of f (out-Node n).id)))) no_case
      ∙ ap (λ o. is_some (option_and_then (λ (m : Node). (out-Node m).run) o)) h.found

  pub known_part : (x : ItemAt) → item_at s (out-Node n).id ≡ Some x → x.part ≡ item_part_of n
  known_part x e =
      let part : item_part s (out-Node n).id ≡ Some (item_part_of n) = ap (option_and_then (λ (y : Site). y.item)) its_site in
      let o : Option NetAt = net_at s (parent (out-Node n).id) in
      its_part (item_part_of n) (net_at s (parent (out-Node n).id)) x (sym (ap (option_and_then (λ (p : ItemPart). option_and_then (with_task p) (net_at s (parent (out-Node n).id)))) part) ∙ e)

  -- the item's own site changes
  pub its_change : (w : Node) (g : Site → Site) → Keeps n w → item_site names w ≡ g (item_site names n) → Places names f s (change s (out-Node n).id g) n w
  its_change w g keeps own =
      let r = own_changed f (out-Node n).id n w h.boxed (identity_in_case (out-Node n).id h.identity) h.found keeps in
      record {
        map = ap (λ m. with_sites s (update m (out-Node n).id g)) h.sites ∙ ap (with_sites s) (sym (r.0 names g own));
        kept = r.1;
      }
