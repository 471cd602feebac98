-- The item of a well boxed net that leads to an identity is the one that the search by halves finds.
use Rattle.std.proofs.Common.{Bool, List, None, Option, Some, [], ap, append_assoc, arith, cond, false, length, map, refl, subst, suc, sym, true, zero, ℕ, ⊎_elim, ◌++◌, ◌+◌, ◌-◌, ◌/◌, ◌<◌, ◌∙◌, ◌∷◌, ◌≡◌, ◌≤◌}
use Rattle.std.proofs.lemmas.Bool.{cases_lt, lt-ltb, ltb-true}
use Rattle.std.specs.FinMap.Entries.{below_all, is_sorted}
use Rattle.std.specs.Ordering.{is_lt}
use Rattle.std.specs.Prelude.{IsSome, T, Vec, nat_lt, option_map, slice_get}
use Rattle.std.specs.declared.alloc.Global.{Global}
use Rattle.yw_base.specs.Identity.{under}
use Rattle.yw_sites.proofs.Children.{distinct_back, others_off}
use Rattle.yw_sites.proofs.Each.{Each-append, Each-back, Each-front}
use Rattle.yw_sites.proofs.Picked.{halves}
use Rattle.yw_sites.proofs.Prefix.{child_length, not_true}
use Rattle.yw_sites.specs.Idents.{AreChildren, Each, IsChild}
use Rattle.yw_state.proofs.Tests.{by_test, never, nowhere, some_same}
use Rattle.yw_state.specs.Identity.{Ident}
use Rattle.yw_state.specs.Map.{lexical}
use Rattle.yw_tree.proofs.Fronts.{before_comes_by, beyond_comes_after, front_comes_by}
use Rattle.yw_tree.proofs.Keys.{ids_are, kids, kids-append}
use Rattle.yw_tree.proofs.Lists.{each_all}
use Rattle.yw_tree.proofs.Removed.{within}
use Rattle.yw_tree.proofs.Split.{in_list, in_list_leads, list_there}
use Rattle.yw_tree.specs.Boxed.{AreRows, AtNet, AtNode, AtRun, IsBoxedNet, IsNetAt, head, heads}
use Rattle.yw_tree.specs.Entries.{nodes, row_nodes}
use Rattle.yw_tree.specs.Ways.{comes_by, if_leads, item_in_row, last_by, last_place, leads, next_list, node_at, or_later, place_among, place_in, place_of}
use Rattle.yw_tree.specs.declared.NetState.{NetState, every_here-NetState, out-NetState}
use Rattle.yw_tree.specs.declared.Node.{Node, out-Node}

-- ---- halves
pub half_fits : (m : ℕ) → 1 < m → (1 ≤ m / 2) × (m / 2 + m / 2 ≤ m)
half_fits m h = (omega arith, omega arith)

module _ (id : Ident) (ns : List Node) where
  small : (d low m : ℕ) → nat_lt 1 m ≡ false → last_by d id ns low m ≡ low
  small zero low m t = refl
  small (suc d) low m t = ap (λ b. cond b (last_by d id ns (cond (comes_by id (slice_get ns (low + m / 2))) (low + m / 2) low) (m - m / 2)) low) t

  few : (m : ℕ) → m ≤ 0 → nat_lt 1 m ≡ false
  few m h = not_true (nat_lt 1 m) (λ t. let l = ltb-true 1 m t in absurd (omega arith))

  -- as many steps as there are items are enough
  enough : (d e low m : ℕ) → m ≤ d → m ≤ e → last_by d id ns low m ≡ last_by e id ns low m
  enough zero zero low m p q = refl
  enough zero (suc e) low m p q = sym (small (suc e) low m (few m p))
  enough (suc d) zero low m p q = small (suc d) low m (few m q)
  enough (suc d) (suc e) low m p q =
      let next = cond (comes_by id (slice_get ns (low + m / 2))) (low + m / 2) low in
      by_test (nat_lt 1 m)
      (λ (t : nat_lt 1 m ≡ true).
      let l : 1 < m = ltb-true 1 m t in
      let h = half_fits m l in
      let in_d : m - m / 2 ≤ d = omega arith in
      let in_e : m - m / 2 ≤ e = omega arith in
      ap (λ b. cond b (last_by d id ns next (m - m / 2)) low) t ∙ enough d e next (m - m / 2) in_d in_e ∙ sym (ap (λ b. cond b (last_by e id ns next (m - m / 2)) low) t))
      (λ (t : nat_lt 1 m ≡ false). ap (λ b. cond b (last_by d id ns next (m - m / 2)) low) t ∙ sym (ap (λ b. cond b (last_by e id ns next (m - m / 2)) low) t))

  -- one step
  pub half_step : (low m : ℕ) (b : Bool) → nat_lt 1 m ≡ true → comes_by id (slice_get ns (low + m / 2)) ≡ b → last_by m id ns low m ≡ last_by (m - m / 2) id ns (cond b (low + m / 2) low) (m - m / 2)
  half_step low zero b t c = never t
  half_step low (suc d) b t c =
      let m = suc d in
      let l : 1 < suc d = ltb-true 1 (suc d) t in
      let h = half_fits (suc d) l in
      let in_d : suc d - suc d / 2 ≤ d = omega arith in
      let next = cond (comes_by id (slice_get ns (low + suc d / 2))) (low + suc d / 2) low in
      ap (λ z. cond z (last_by d id ns next (suc d - suc d / 2)) low) t
      ∙ ap (λ z. last_by d id ns (cond z (low + suc d / 2) low) (suc d - suc d / 2)) c
      ∙ enough d (suc d - suc d / 2) (cond b (low + suc d / 2) low) (suc d - suc d / 2) in_d (omega arith)

-- ---- the items of a sorted list
below_at : (k : Ident) (ns : List Node) (b : ℕ) (y : Node) → T (below_all lexical k (map head ns)) → slice_get ns b ≡ Some y → T (is_lt (lexical k (out-Node y).id))
below_at k [] b y h e = nowhere e
below_at k (n ∷ ns) zero y h e = subst (λ (z : Node). T (is_lt (lexical k (out-Node z).id))) (some_same n y e) (halves _ _ h).0
below_at k (n ∷ ns) (suc b) y h e = below_at k ns b y (halves _ _ h).1 e

sorted_at : (ns : List Node) (a b : ℕ) (x y : Node) → T (is_sorted lexical (map head ns)) → a < b → slice_get ns a ≡ Some x → slice_get ns b ≡ Some y → T (is_lt (lexical (out-Node x).id (out-Node y).id))
sorted_at [] a b x y h l e f = nowhere e
sorted_at (n ∷ ns) a zero x y h l e f = absurd (omega arith)
sorted_at (n ∷ ns) zero (suc b) x y h l e f = subst (λ (z : Node). T (is_lt (lexical (out-Node z).id (out-Node y).id))) (some_same n x e) (below_at (out-Node n).id ns b y (halves _ _ h).0 f)
sorted_at (n ∷ ns) (suc a) (suc b) x y h l e f = sorted_at ns a b x y (halves _ _ h).1 (omega arith) e f

there : {A : Type 0} (xs : List A) (k : ℕ) → k < length xs → (x : A) × (slice_get xs k ≡ Some x)
there [] k h = absurd (omega arith)
there (x ∷ xs) zero h = (x, refl)
there (x ∷ xs) (suc k) h = there xs k (omega arith)

pub some_there : {A : Type 0} (xs : List A) (k : ℕ) → k < length xs → IsSome (slice_get xs k)
some_there xs k h = subst (λ o. IsSome o) (sym (there xs k h).1) refl

long_at : (m : ℕ) (ns : List Node) (k : ℕ) (n : Node) → Each (λ (j : Ident). length j ≡ m) (kids ns) → slice_get ns k ≡ Some n → length (out-Node n).id ≡ m
long_at m [] k n h e = nowhere e
long_at m (x ∷ ns) zero n h e = subst (λ (z : Node). length (out-Node z).id ≡ m) (some_same x n e) h.0
long_at m (x ∷ ns) (suc k) n h e = long_at m ns k n h.1 e

-- ---- in a list
module _ (id : Ident) (ns : List Node) (sorted : T (is_sorted lexical (map head ns))) (m : ℕ) (long : Each (λ (j : Ident). length j ≡ m) (kids ns)) (k : ℕ) (n : Node) (e : slice_get ns k ≡ Some n) (led : leads id n ≡ true) where
  -- what stands up to the item comes by the identity, and what stands behind it doesn't
  by_place : (a : ℕ) → a < length ns → (a ≤ k → comes_by id (slice_get ns a) ≡ true) × (k < a → comes_by id (slice_get ns a) ≡ false)
  by_place a l =
      let x = there ns a l in (
        λ h.
            ⊎_elim
            (λ (lt : a < k). ap (comes_by id) x.1 ∙ before_comes_by id (out-Node n).id (out-Node x.0).id led (sorted_at ns a k x.0 n sorted lt x.1 e))
            (λ (ge : k ≤ a). let s : a ≡ k = omega arith in ap (λ z. comes_by id (slice_get ns z)) s ∙ ap (comes_by id) e ∙ front_comes_by id (out-Node n).id led)
            (cases_lt a k),
        λ h.
            ap (comes_by id) x.1
            ∙ beyond_comes_after id (out-Node n).id (out-Node x.0).id (long_at m ns k n long e ∙ sym (long_at m ns a x.0 long x.1)) led (sorted_at ns k a n x.0 sorted h e x.1),
      )

  found_by : (d low size : ℕ) → size ≤ d → low ≤ k → k < low + size → low + size ≤ length ns → last_by d id ns low size ≡ k
  found_by zero low size p a b c = absurd (omega arith)
  found_by (suc d) low size p a b c =
      let mid = low + size / 2 in
      let next = cond (comes_by id (slice_get ns (low + size / 2))) (low + size / 2) low in
      by_test (nat_lt 1 size)
      (λ (t : nat_lt 1 size ≡ true).
      let l : 1 < size = ltb-true 1 size t in
      let h = half_fits size l in
      let inside : low + size / 2 < length ns = omega arith in
      let left : size - size / 2 ≤ d = omega arith in
      let at = by_place (low + size / 2) inside in
      ap (λ z. cond z (last_by d id ns next (size - size / 2)) low) t
      ∙ ⊎_elim
      (λ (lt : k < low + size / 2).
      let below : k < low + (size - size / 2) = omega arith in
      let most : low + (size - size / 2) ≤ length ns = omega arith in
      ap (λ (z : Bool). last_by d id ns (cond z (low + size / 2) low) (size - size / 2)) (at.1 lt) ∙ found_by d low (size - size / 2) left a below most)
      (λ (ge : low + size / 2 ≤ k).
      let below : k < low + size / 2 + (size - size / 2) = omega arith in
      let most : low + size / 2 + (size - size / 2) ≤ length ns = omega arith in
      ap (λ (z : Bool). last_by d id ns (cond z (low + size / 2) low) (size - size / 2)) (at.0 ge) ∙ found_by d (low + size / 2) (size - size / 2) left ge below most)
      (cases_lt k (low + size / 2)))
      (λ (t : nat_lt 1 size ≡ false).
      let small : size ≤ 1 = not_more (nat_lt 1 size) refl t in
      let it : low ≡ k = omega arith in
      ap (λ z. cond z (last_by d id ns next (size - size / 2)) low) t ∙ it)
    where
      not_more : (z : Bool) → nat_lt 1 size ≡ z → z ≡ false → size ≤ 1
      not_more z u f = ⊎_elim (λ (lt : 1 < size). never (sym f ∙ sym u ∙ lt-ltb 1 size lt)) (λ (le : size ≤ 1). le) (cases_lt 1 size)

  place_found : place_in id ns ≡ Some k
  place_found =
      let inside = within ns k n e in
      let zero_low : 0 ≤ k = omega arith in
      let at : last_place id ns ≡ k = found_by (length ns) 0 (length ns) (omega arith) zero_low (omega arith) (omega arith) in
      ap (λ j. if_leads id j (slice_get ns j)) at ∙ ap (if_leads id k) e ∙ ap (λ (b : Bool). cond b (Some k) None) led

-- ---- in the lists of a net
in_kids : (ns : List Node) (k : ℕ) (n : Node) (Q : Ident → Type 0) → slice_get ns k ≡ Some n → Each Q (kids ns) → Q (out-Node n).id
in_kids [] k n Q e h = nowhere e
in_kids (x ∷ ns) zero n Q e h = subst (λ (z : Node). Q (out-Node z).id) (some_same x n e) h.0
in_kids (x ∷ ns) (suc k) n Q e h = in_kids ns k n Q e h.1

all_long : (i : Ident) (js : List Ident) → Each (IsChild i) js → Each (λ (j : Ident). length j ≡ length i + 1) js
all_long i [] c = tt
all_long i (j ∷ js) c = (child_length i j c.0, all_long i js c.1)

in_later : (vs : List (Vec Node Global)) (t k : ℕ) (n : Node) (Q : Ident → Type 0) → item_in_row (slice_get vs t) k ≡ Some n → Each Q (kids (row_nodes vs)) → Q (out-Node n).id
in_later [] t k n Q e h = nowhere e
in_later (v ∷ vs) zero k n Q e h = in_kids v.items k n Q e (Each-front Q (kids v.items) (kids (row_nodes vs)) (subst (Each Q) (kids-append v.items (row_nodes vs)) h))
in_later (v ∷ vs) (suc t) k n Q e h = in_later vs t k n Q e (Each-back Q (kids v.items) (kids (row_nodes vs)) (subst (Each Q) (kids-append v.items (row_nodes vs)) h))

module _ (id i : Ident) where
  among : (u : ℕ) (vs : List (Vec Node Global)) (t k : ℕ) (n : Node) → AreRows u (heads vs) → AreChildren i (kids (row_nodes vs)) → item_in_row (slice_get vs t) k ≡ Some n → leads id n ≡ true → place_among id vs ≡ Some (t, k)
  among u [] t k n r c e led = nowhere e
  among u (v ∷ vs) zero k n r c e led =
      let here = Each-front (IsChild i) (kids v.items) (kids (row_nodes vs)) (subst (Each (IsChild i)) (kids-append v.items (row_nodes vs)) c.0) in
      ap (λ (o : Option ℕ). or_later o (place_among id vs)) (place_found id v.items r.1 (length i + 1) (all_long i (kids v.items) here) k n e led)
  among u (v ∷ vs) (suc t) k n r c e led =
      let both = subst (AreChildren i) (kids-append v.items (row_nodes vs)) c in
      ap (λ (o : Option ℕ). or_later o (place_among id vs)) (not_here (place_in id v.items) refl both)
      ∙ ap (option_map next_list) (among (u + 1) vs t k n r.2 (Each-back (IsChild i) (kids v.items) (kids (row_nodes vs)) both.0, distinct_back (kids v.items) (kids (row_nodes vs)) both.1) e led)
    where
      not_here : (o : Option ℕ) → place_in id v.items ≡ o → AreChildren i (kids v.items ++ kids (row_nodes vs)) → place_in id v.items ≡ None
      not_here None h both = h
      not_here (Some q) h both =
          let x = list_there id v.items q h in
          let l = in_list_leads id v.items q x.0 h x.1 in
          let s = in_list v.items q x.0 x.1 in
          let split : kids v.items ++ kids (row_nodes vs) ≡ kids s.front ++ ((out-Node x.0).id ∷ (kids s.back ++ kids (row_nodes vs))) =
          ap (λ z. kids z ++ kids (row_nodes vs)) s.whole ∙ ap (λ z. z ++ kids (row_nodes vs)) (kids-append s.front (x.0 ∷ s.back)) ∙ append_assoc (kids s.front) ((out-Node x.0).id ∷ kids s.back) (kids (row_nodes vs)) in
          let off = others_off id i (kids s.front) (out-Node x.0).id (kids s.back ++ kids (row_nodes vs)) (subst (AreChildren i) split both) l in
          let none = in_later vs t k n (λ j. under id j ≡ false) e (Each-back (λ j. under id j ≡ false) (kids s.back) (kids (row_nodes vs)) off.1) in
          never (sym none ∙ led)

  -- the item that leads to the identity is the one at the place that is found
  pub place_is : (s : NetState) → IsBoxedNet s → IsNetAt i s → (q : ℕ × ℕ) (n : Node) → node_at s q.0 q.1 ≡ Some n → leads id n ≡ true → place_of id s ≡ Some q
  place_is s b a q n e led = among 0 (out-NetState s).items.items q.0 q.1 n (every_here-NetState AtNet AtNode AtRun s b) (subst (AreChildren i) (ids_are s) a) e led

  each_place : (Q : Node → Type 0) (vs : List (Vec Node Global)) → ((t k : ℕ) (n : Node) → item_in_row (slice_get vs t) k ≡ Some n → Q n) → Each Q (row_nodes vs)
  each_place Q [] h = tt
  each_place Q (v ∷ vs) h = Each-append Q v.items (row_nodes vs) (each_all Q v.items (λ k n l e. h 0 k n e)) (each_place Q vs (λ t k n e. h (suc t) k n e))

  -- where no place is found, no item leads there
  pub none_leads : (s : NetState) → IsBoxedNet s → IsNetAt i s → place_of id s ≡ None → Each (λ n. leads id n ≡ false) (nodes s)
  none_leads s b a e = each_place (λ n. leads id n ≡ false) (out-NetState s).items.items (λ t k n f. not_true (leads id n) (λ l. nowhere (sym e ∙ place_is s b a (t, k) n f l)))
