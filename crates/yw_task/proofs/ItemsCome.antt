-- Items come to a net in turn: what a map that shows the net then shows, and what may stand beside them.
use Rattle.std.proofs.Common.{List, None, [], ap, arith, false, length, refl, subst, sym, ℕ, ◌++◌, ◌+◌, ◌∙◌, ◌∷◌, ◌≡◌, ◌≤◌}
use Rattle.std.specs.Prelude.{IsTrue}
use Rattle.yw_base.specs.Identity.{under, child}
use Rattle.yw_sites.proofs.Children.{ends_differ}
use Rattle.yw_sites.proofs.Each.{Each-append, Each-back, Each-front}
use Rattle.yw_sites.proofs.Prefix.{child_strictly, child_under, is_child_of}
use Rattle.yw_sites.specs.Entries.{Entries}
use Rattle.yw_sites.specs.Idents.{AreChildren, Each, IsChild}
use Rattle.yw_state.proofs.MapLemmas.{by_name, get-insert_other}
use Rattle.yw_state.proofs.Tests.{never}
use Rattle.yw_state.specs.After.{new_item}
use Rattle.yw_state.specs.Identity.{Ident, strictly_under}
use Rattle.yw_state.specs.Map.{get, insert}
use Rattle.yw_state.specs.State.{Site, Sites}
use Rattle.yw_state.specs.Values.{Row}
use Rattle.yw_state.specs.declared.part.Checks.{Checks}
use Rattle.yw_task.proofs.ItemPut.{child_same, not_child, put_all}
use Rattle.yw_task.specs.Items.{GetsItems, NothingFrom}
use Rattle.yw_tree.specs.Boxed.{IsBoxedNet, ids}
use Rattle.yw_tree.specs.Shows.{ShowsNet}
use Rattle.yw_tree.specs.declared.NetState.{NetState}
use Rattle.yw_tree.specs.declared.Node.{out-Node}

module _ (names : ℕ → List ℕ) (i : Ident) (beside : Entries) (t : ℕ) (due : Checks) (others : List Ident) where
  abbrev pub coming : Row → Site
  coming given = new_item t given due

  -- an item of each number from first on may come
  abbrev pub HasRoom : NetState → ℕ → Type 0
  HasRoom s first = (n : ℕ) → first ≤ n → AreChildren i (ids s ++ (child i n ∷ others))

  -- The items have come: the map has one value more for each.
  pub record HaveCome (m : Sites) (rows : List Row) (first : ℕ) (new : NetState) : Type 0 where
    pub boxed : IsBoxedNet new
    pub room : (n : ℕ) → first + length rows ≤ n → AreChildren i (ids new ++ (child i n ∷ others))
    pub shows : ShowsNet names (put_all i coming first rows m) i beside new
    pub here : get (put_all i coming first rows m) i ≡ get m i
    pub elsewhere : (q : Ident) → under q i ≡ false → get (put_all i coming first rows m) q ≡ get m q

  -- of two numbers the one's identity isn't the other's, nor one of those that stand
  differs : (s : NetState) (first n : ℕ) → HasRoom s first → first + 1 ≤ n → Each (λ k. child i first ≡ k → ⊥) (ids s ++ (child i n ∷ others))
  differs s first n room l =
      let Q : Ident → Type 0 = λ k. child i first ≡ k → ⊥ in
      let one : List Ident = child i first ∷ [] in
      let stand : Each Q (ids s ++ others) = (ends_differ (ids s) one others (room first (omega arith)).1).0 in
      Each-append Q (ids s) (child i n ∷ others) (Each-front Q (ids s) others stand)
      ((λ e. let same : first ≡ n = child_same i first n e in absurd (omega arith)), Each-back Q (ids s) others stand)

  pub all_come : (rows : List Row) (first : ℕ) (old new : NetState) (m : Sites) → GetsItems i t due first rows old new → IsBoxedNet old → HasRoom old first → NothingFrom m i first
      → ShowsNet names m i beside old → HaveCome m rows first new
  all_come [] first old new m same boxed room nothing shows = record {
    boxed = subst IsBoxedNet (sym same) boxed;
    room = λ n l. subst (λ (s : NetState). AreChildren i (ids s ++ (child i n ∷ others))) (sym same) (room n (omega arith));
    shows = subst (λ (s : NetState). ShowsNet names m i beside s) (sym same) shows;
    here = refl;
    elsewhere = λ q u. refl;
  }
  all_come (given ∷ rows) first old new m (node, mid, ready, adds, rest) boxed room nothing shows =
      let j = child i first in
      let v : Site = coming given in
      let is_child : IsChild i j = (first, refl) in
      let strict : IsTrue (strictly_under (out-Node node).id i) = subst (λ z. IsTrue (strictly_under z i)) (sym ready.id) (child_strictly j i (is_child_of j i is_child)) in
      let vacant : get m (out-Node node).id ≡ None = ap (get m) ready.id ∙ nothing first (omega arith) in
      let shown : ShowsNet names (insert m j v) i beside mid =
      subst (λ z. ShowsNet names z i beside mid) (λ k. insert m (ready.id k) (ready.site names k)) (adds.shows names m i beside strict vacant shows) in
      let fresh : NothingFrom (insert m j v) i (first + 1) =
      λ n l. get-insert_other by_name m j v (child i n) (λ e. let same : n ≡ first = child_same i n first e in absurd (omega arith)) ∙ nothing n (omega arith) in
      let more : HasRoom mid (first + 1) = λ n l.
      adds.children i (child i n ∷ others) (room n (omega arith)) (subst (IsChild i) (sym ready.id) is_child)
      (subst (λ z. Each (λ k. z ≡ k → ⊥) (ids old ++ (child i n ∷ others))) (sym ready.id) (differs old first n room l)) in
      let come = all_come rows (first + 1) mid new (insert m j v) rest adds.boxed more fresh shown in
      record {
        boxed = come.boxed;
        room = λ n l. come.room n (omega arith);
        shows = come.shows;
        here = come.here ∙ get-insert_other by_name m j v i (not_child i first);
        elsewhere = λ q u. come.elsewhere q u ∙ get-insert_other by_name m j v q (λ e. never (sym u ∙ ap (λ z. under z i) e ∙ child_under i j is_child));
      }
