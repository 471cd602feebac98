-- A net that comes to an item or a run that has none.
use Rattle.std.proofs.Common.{◌≡◌, ℕ, false, refl, Option, Some, None, List, [], ◌++◌, ap, subst, sym, ◌∙◌}
use Rattle.std.specs.Prelude.{Box}
use Rattle.std.specs.declared.alloc.Global.{Global}
use Rattle.yw_sites.specs.Idents.{AreChildren}
use Rattle.yw_state.specs.After.{stands}
use Rattle.yw_state.specs.Identity.{Ident}
use Rattle.yw_state.specs.Map.{update}
use Rattle.yw_state.specs.State.{Site, no_checks}
use Rattle.yw_state.proofs.Tests.{nowhere}
use Rattle.yw_tree.specs.Boxed.{Held, IsBoxedNet, IsBoxedRun, ids, net_ids, run_ids}
use Rattle.yw_tree.specs.Entries.{below_net, below_run, flat, net_entries, net_part, net_part_of, node_entries, nodes}
use Rattle.yw_tree.specs.Forest.{IsForest, item_replaced, sites_of}
use Rattle.yw_tree.specs.Lent.{FitsItem, FitsRun, LentItem, LentRun}
use Rattle.yw_tree.specs.Places.{placed_run}
use Rattle.yw_tree.specs.Ways.{net_in}
use Rattle.yw_tree.specs.declared.Forest.{Forest}
use Rattle.yw_tree.specs.declared.NetState.{NetState}
use Rattle.yw_tree.specs.declared.Node.{Node, Node-F, out-Node}
use Rattle.yw_tree.specs.declared.Run.{Run, Run-F, out-Run}
use Rattle.yw_tree.proofs.Equations.{net_entries_is}
use Rattle.yw_tree.proofs.Keys.{ids_are, kids}
use Rattle.yw_tree.proofs.NetLaw.{site_open}

abbrev Level : Type 0
Level = Node-F NetState Node Run

abbrev RunLevel : Type 0
RunLevel = Run-F NetState Node Run

pub no_net : (o : Option (Box NetState Global)) → net_in o ≡ None → o ≡ None
no_net None e = refl
no_net (Some b) e = nowhere (sym e)

no_ids : (s : NetState) → nodes s ≡ [] → ids s ≡ []
no_ids s e = ids_are s ∙ ap kids e

none_below : (names : ℕ → List ℕ) (s : NetState) → nodes s ≡ [] → (net_entries names s).1 ≡ []
none_below names s e = ap (λ z. z.1) (net_entries_is names s) ∙ ap (flat (node_entries names)) e

module _ (f : Forest) (id : Ident) (net : Box NetState Global) (nb : IsBoxedNet net.value) (empty : nodes net.value ≡ []) where
  -- ---- to an item
  module _ (old w : Node) (lent : LentItem f id old) (none : (out-Node old).net ≡ None) (is : out-Node w ≡ record (out-Node old) { net = Some net }) where
    item_fits : FitsItem id (out-Node old).task w
    item_fits =
        let hung = run_ids (out-Node old).run in
        let alone : AreChildren id hung = subst (λ z. AreChildren id (net_ids z ++ hung)) none lent.fits.children in
        let here : AreChildren id (ids net.value ++ hung) = subst (λ z. AreChildren id (z ++ hung)) (sym (no_ids net.value empty)) alone in
        record {
          id = ap (λ (z : Level). z.id) is ∙ lent.fits.id;
          task = ap (λ (z : Level). z.task) is;
          children = subst (λ (z : Level). AreChildren id (net_ids z.net ++ run_ids z.run)) (sym is) here;
          net = subst (λ (z : Level). Held IsBoxedNet z.net) (sym is) nb;
          run = subst (λ (z : Level). Held IsBoxedRun z.run) (sym is) lent.fits.run;
        }

    pub item_attached : ((names : ℕ → List ℕ) → sites_of names (item_replaced f id w) ≡ update (sites_of names f) id (stands (net_part names net.value))) × IsForest (item_replaced f id w)
    item_attached = (
      λ names. (lent.placed w item_fits).own names (stands (net_part names net.value)) (ap (site_open names) is)
          (ap (λ (z : Level). below_net names z.net ++ below_run names z.run) is ∙ ap (λ z. z ++ below_run names (out-Node old).run) (none_below names net.value empty) ∙ ap (λ z. below_net names z ++ below_run names (out-Node old).run) (sym none)),
      (lent.placed w item_fits).kept,
    )

  -- ---- to a run
  module _ (r w : Run) (lent : LentRun f id r) (none : (out-Run r).net ≡ None) (is : out-Run w ≡ record (out-Run r) { net = Some net }) where
    run_fits : FitsRun id w
    run_fits =
        let nothing : AreChildren id [] = (tt, tt) in
        let here : AreChildren id (ids net.value) = subst (AreChildren id) (sym (no_ids net.value empty)) nothing in
        record {
          id = ap (λ (z : RunLevel). z.id) is ∙ lent.fits.id;
          children = subst (λ (z : RunLevel). AreChildren id (net_ids z.net)) (sym is) here;
          net = subst (λ (z : RunLevel). Held IsBoxedNet z.net) (sym is) nb;
        }

    abbrev run_open : (ℕ → List ℕ) → RunLevel → Site
    run_open names l = record { net = net_part_of names l.net; item = None; run = Some (record { rest = l.rest; waiting = l.waiting }); suspended = false; due = no_checks }

    pub run_attached : ((names : ℕ → List ℕ) → sites_of names (placed_run f id w) ≡ update (sites_of names f) id (stands (net_part names net.value))) × IsForest (placed_run f id w)
    run_attached = (
      λ names. (lent.placed w run_fits).own names (stands (net_part names net.value)) (ap (run_open names) is)
          (ap (λ (z : RunLevel). below_net names z.net) is ∙ none_below names net.value empty ∙ ap (below_net names) (sym none)),
      (lent.placed w run_fits).kept,
    )
