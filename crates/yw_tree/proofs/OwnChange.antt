-- Changes of an item's own entry.
use Rattle.std.proofs.Common.{List, Some, subst, sym, ℕ, ◌++◌, ◌∙◌, ◌≡◌}
use Rattle.yw_sites.specs.Idents.{AreChildren}
use Rattle.yw_state.specs.Identity.{Ident}
use Rattle.yw_state.specs.Map.{update}
use Rattle.yw_state.specs.State.{Site}
use Rattle.yw_tree.proofs.ForestLaw.{InCase}
use Rattle.yw_tree.proofs.Lent.{item_lent}
use Rattle.yw_tree.specs.Boxed.{Held, IsBoxedNet, IsBoxedRun, net_ids, run_ids}
use Rattle.yw_tree.specs.Entries.{below_net, below_run, item_site}
use Rattle.yw_tree.specs.Forest.{IsForest, item_of, item_replaced, sites_of}
use Rattle.yw_tree.specs.Lent.{FitsItem}
use Rattle.yw_tree.specs.declared.Forest.{Forest}
use Rattle.yw_tree.specs.declared.Node.{Node, out-Node}
use Rattle.yw_tree.specs.Places.{Keeps}

-- the whole forest then means what it did, with that entry changed
pub own_changed : (f : Forest) (id : Ident) (old w : Node) → IsForest f → InCase id → item_of f id ≡ Some old → Keeps old w
    → ((names : ℕ → List ℕ) (h : Site → Site) → item_site names w ≡ h (item_site names old) → sites_of names (item_replaced f id w) ≡ update (sites_of names f) id h) × IsForest (item_replaced f id w)
own_changed f id old w b within e k =
    let lent = item_lent f id within b old e in
    let o = out-Node old in
    let l = out-Node w in
    let fits : FitsItem id (out-Node old).task w = record {
      id = k.id ∙ lent.fits.id;
      task = k.task;
      children = subst (λ n. AreChildren id (net_ids n ++ run_ids l.run)) (sym k.net) (subst (λ r. AreChildren id (net_ids o.net ++ run_ids r)) (sym k.run) lent.fits.children);
      net = subst (Held IsBoxedNet) (sym k.net) lent.fits.net;
      run = subst (Held IsBoxedRun) (sym k.run) lent.fits.run;
    } in (λ names h own. (lent.placed w fits).own names h own (λ j. below_net names (k.net j) ++ below_run names (k.run j)), (lent.placed w fits).kept)
