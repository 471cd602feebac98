-- One item more in a net of the forest.
use Rattle.std.proofs.Common.{List, None, Option, Some, [], ap, arith, false, length, refl, subst, suc, sym, true, zero, ℕ, ◌++◌, ◌∙◌, ◌∷◌, ◌≡◌, ◌≤◌}
use Rattle.std.specs.FinMap.Entries.{find}
use Rattle.std.specs.Ordering.{eq_by_cmp, is_lt}
use Rattle.std.specs.Prelude.{IsSome, IsTrue, T, Vec, is_some, option_map, slice_get}
use Rattle.std.specs.declared.alloc.Global.{Global}
use Rattle.yw_base.specs.Identity.{under}
use Rattle.yw_sites.proofs.Each.{Each-back, Each-front}
use Rattle.yw_sites.proofs.OnTests.{not_there}
use Rattle.yw_sites.proofs.Parts.{other}
use Rattle.yw_sites.proofs.Prefix.{child_length, child_of, child_strictly, is_child_of}
use Rattle.yw_sites.specs.Idents.{AreChildren, Each, IsChild}
use Rattle.yw_state.proofs.MapLemmas.{by_name, get-insert_other, tied_self}
use Rattle.yw_state.proofs.Tests.{by_test, never}
use Rattle.yw_state.specs.After.{with_net as with_part}
use Rattle.yw_state.specs.Identity.{Ident, is_child, strictly_under}
use Rattle.yw_state.specs.Map.{get, insert, lexical}
use Rattle.yw_tree.proofs.FindLaw.{find_is}
use Rattle.yw_tree.proofs.Keys.{ids_are, kids}
use Rattle.yw_tree.proofs.NetHere.{NetHere, same_part}
use Rattle.yw_tree.proofs.Stand.{all_known, each_map, each_with}
use Rattle.yw_tree.proofs.Table.{not_both}
use Rattle.yw_tree.specs.Boxed.{ids}
use Rattle.yw_tree.specs.Coming.{ComesAfter}
use Rattle.yw_tree.specs.Entries.{item_site, net_entries, net_part, nodes, row_nodes}
use Rattle.yw_tree.specs.Forest.{IsForest, sites_of}
use Rattle.yw_tree.specs.Shows.{AddsItem, IsLast, row_or_none}
use Rattle.yw_tree.specs.Spots.{Part, part_at, part_site}
use Rattle.yw_tree.specs.declared.Forest.{Forest}
use Rattle.yw_tree.specs.declared.NetState.{NetState, out-NetState}
use Rattle.yw_tree.specs.declared.Node.{Node, out-Node}

pub not_before_itself : (k : Ident) → T (is_lt (lexical k k)) → ⊥
not_before_itself k h = not_both (lexical k k) (tied_self by_name k) h

each_row : (Q : Node → Type 0) (vs : List (Vec Node Global)) (t : ℕ) → Each Q (row_nodes vs) → Each Q (row_or_none (slice_get vs t))
each_row Q [] t h = tt
each_row Q (v ∷ vs) zero h = Each-front Q v.items (row_nodes vs) h
each_row Q (v ∷ vs) (suc t) h = each_row Q vs t (Each-back Q v.items (row_nodes vs) h)

of_kids : (Q : Ident → Type 0) (ns : List Node) → Each Q (kids ns) → Each (λ n. Q (out-Node n).id) ns
of_kids Q [] h = tt
of_kids Q (n ∷ ns) h = (h.0, of_kids Q ns h.1)

-- the map has something exactly where something is found
pub some_found : (names : ℕ → List ℕ) (f : Forest) (j : Ident) → IsForest f → 1 ≤ length j → length j ≤ 41 → is_some (get (sites_of names f) j) ≡ true → IsSome (part_at f j)
some_found names f j b long fits h = mapped (part_at f j) (sym (ap is_some (find_is names f b j long fits)) ∙ h)
  where
    mapped : (o : Option Part) → is_some (option_map (part_site names) o) ≡ true → IsSome o
    mapped None h = never h
    mapped (Some x) h = refl

pub none_found : (names : ℕ → List ℕ) (f : Forest) (j : Ident) → IsForest f → 1 ≤ length j → length j ≤ 41 → part_at f j ≡ None → get (sites_of names f) j ≡ None
none_found names f j b long fits e = find_is names f b j long fits ∙ ap (option_map (part_site names)) e

module _ (f : Forest) (b : IsForest f) (id : Ident) (long : 1 ≤ length id) (short : length id ≤ 40) (s : NetState) (placed : NetState → Forest) (h : NetHere f id s placed) (k : Ident) (child : is_child k id ≡ true) (after : ComesAfter f id k) where
  abbrev Before : Ident → Type 0
  Before j = T (is_lt (lexical j k))

  -- all that stands directly below comes before it
  all_before : Each (λ j. T (is_lt (lexical j k))) (ids s ++ h.others)
  all_before =
      let names : ℕ → List ℕ = λ n. [] in
      each_with (IsChild id) (λ j. is_some (get (sites_of names f) j) ≡ true) Before
      (λ j c there.
      let l = child_length id j c in
      let at_least : 1 ≤ length j = omega arith in
      let at_most : length j ≤ 41 = omega arith in
      after j (is_child_of j id c) (some_found names f j b at_least at_most there))
      (ids s ++ h.others) h.here.0
      (each_with (IsChild id) (λ j. is_some (find lexical j ((net_entries names s).1 ++ h.beside names)) ≡ true) (λ j. is_some (get (sites_of names f) j) ≡ true)
      (λ j c there. ap is_some ((h.shows names).below j (child_strictly j id (is_child_of j id c))) ∙ there)
      (ids s ++ h.others) h.here.0 (all_known names s (h.beside names) h.others (h.known names)))

  pub comes_last : (n : Node) → (out-Node n).id ≡ k → IsLast s n
  comes_last n e =
      each_row (λ x. T (is_lt (lexical (out-Node x).id (out-Node n).id))) (out-NetState s).items.items (out-Node n).task
      (of_kids (λ j. T (is_lt (lexical j (out-Node n).id))) (nodes s)
      (subst (λ z. Each (λ j. T (is_lt (lexical j z))) (kids (nodes s))) (sym e)
      (subst (Each Before) (ids_are s) (Each-front Before (ids s) h.others all_before))))

  differs : Each (λ j. k ≡ j → ⊥) (ids s ++ h.others)
  differs = each_map Before (λ j. k ≡ j → ⊥) (λ j l e. not_before_itself k (subst (λ z. T (is_lt (lexical z k))) (sym e) l)) (ids s ++ h.others) all_before

  vacant : (names : ℕ → List ℕ) → get (sites_of names f) k ≡ None
  vacant names =
      let l = child_length id k (child_of k id child) in
      let at_least : 1 ≤ length k = omega arith in
      let at_most : length k ≤ 41 = omega arith in
      by_test (is_some (get (sites_of names f) k))
      (λ (t : is_some (get (sites_of names f) k) ≡ true). absurd (not_before_itself k (after k child (some_found names f k b at_least at_most t))))
      (λ (t : is_some (get (sites_of names f) k) ≡ false). not_there (get (sites_of names f) k) t)

  -- the forest with that item more
  module _ (n : Node) (same_id : (out-Node n).id ≡ k) (w : NetState) (adds : AddsItem s w n) where
    strict : IsTrue (strictly_under (out-Node n).id id)
    strict = subst (λ z. IsTrue (strictly_under z id)) (sym same_id) (child_strictly k id child)

    fits : AreChildren id (ids w ++ h.others)
    fits = adds.children id h.others h.here (subst (IsChild id) (sym same_id) (child_of k id child)) (subst (λ z. Each (λ j. z ≡ j → ⊥) (ids s ++ h.others)) (sym same_id) differs)

    pub item_comes : (names : ℕ → List ℕ) → (sites_of names (placed w) ≡ insert (sites_of names f) (out-Node n).id (item_site names n)) × IsForest (placed w)
    item_comes names =
        let m = sites_of names f in
        let j = (out-Node n).id in
        let site = item_site names n in
        let o = other j id strict in
        let now = adds.shows names m id (h.beside names) strict (ap (get m) same_id ∙ vacant names) (h.shows names) in
        let same_at : get (insert m j site) id ≡ get m id = get-insert_other by_name m j site id (λ e. never (sym o.1 ∙ ap (λ z. eq_by_cmp lexical z id) (sym e) ∙ tied_self by_name id)) in
        h.lift w adds.boxed fits names (insert m j site) now
        (sym (same_part (net_part names w) (get (insert m j site) id) now.part) ∙ ap (option_map (with_part (λ _. net_part names w))) same_at)
        (λ q u. get-insert_other by_name m j site q (λ e. never (sym u ∙ ap (λ z. under z id) e ∙ o.0)))
