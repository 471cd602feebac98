-- A net that has no item.
use Rattle.std.proofs.Common.{List, [], ap, length, refl, ℕ, ◌++◌, ◌+◌, ◌∙◌, ◌∷◌, ◌≡◌, map, subst, sym}
use Rattle.std.specs.Prelude.{Vec}
use Rattle.std.specs.declared.alloc.Global.{Global}
use Rattle.yw_sites.specs.Idents.{Each}
use Rattle.yw_tree.proofs.Law.{part_is}
use Rattle.yw_tree.proofs.Made.{made_net}
use Rattle.yw_tree.specs.Begins.{BeginsNet}
use Rattle.yw_tree.specs.Boxed.{AreRows, AtNet, AtNode, AtRun, IsBoxedNode, head, heads}
use Rattle.yw_tree.specs.Entries.{nodes, row_nodes}
use Rattle.yw_tree.specs.declared.NetState.{NetState, NetState-F, out-roll-NetState, roll-NetState}
use Rattle.yw_tree.specs.declared.Node.{Node}
use Rattle.yw_tree.specs.declared.Run.{Run}

abbrev pub AreEmpty : List (Vec Node Global) → Type 0
AreEmpty vs = Each (λ (v : Vec Node Global). v.items ≡ []) vs

no_nodes : (vs : List (Vec Node Global)) → AreEmpty vs → row_nodes vs ≡ []
no_nodes [] h = refl
no_nodes (v ∷ vs) h = λ j. h.0 j ++ no_nodes vs h.1 j

no_rows : (k : ℕ) (vs : List (Vec Node Global)) → AreEmpty vs → AreRows k (heads vs)
no_rows k [] h = tt
no_rows k (v ∷ vs) h = subst (λ hs. AreRows k (hs ∷ heads vs)) (sym (ap (map head) h.0)) (tt, tt, no_rows (k + 1) vs h.1)

module _ (l : NetState-F NetState Node Run) (empty : AreEmpty l.items.items) where
  without_nodes : nodes (roll-NetState l) ≡ []
  without_nodes = ap (λ (z : NetState-F NetState Node Run). row_nodes z.items.items) (out-roll-NetState l) ∙ no_nodes l.items.items empty

  pub empty_begins : BeginsNet l.spec l.net l.marks l.vals (length l.items.items) (roll-NetState l)
  empty_begins = record {
    part = λ names. part_is names l;
    lists = ap (λ (z : NetState-F NetState Node Run). length z.items.items) (out-roll-NetState l);
    empty = without_nodes;
    boxed = made_net AtNet AtNode AtRun l (no_rows 0 l.items.items empty) (subst (Each IsBoxedNode) (sym (no_nodes l.items.items empty)) tt);
  }
