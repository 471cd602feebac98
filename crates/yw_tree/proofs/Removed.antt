-- One item of a net goes.
use Rattle.std.proofs.Common.{List, Some, [], ap, append_assoc, arith, length, map, refl, set, subst, suc, sym, true, zero, ℕ, ◌++◌, ◌+◌, ◌<◌, ◌∙◌, ◌∷◌, ◌≡◌}
use Rattle.std.specs.FinMap.Entries.{below_all, is_sorted}
use Rattle.std.specs.Prelude.{T, Vec, remove, slice_get}
use Rattle.std.specs.Vec.{with_item}
use Rattle.std.specs.declared.alloc.Global.{Global}
use Rattle.yw_sites.proofs.Children.{children_ends}
use Rattle.yw_sites.proofs.Each.{each_ends, each_mid}
use Rattle.yw_sites.proofs.Picked.{halves, joined}
use Rattle.yw_sites.proofs.Prefix.{child_length, under_refl, under_same}
use Rattle.yw_sites.specs.Entries.{Entries}
use Rattle.yw_sites.specs.Idents.{AreChildren, Each, IsChild}
use Rattle.yw_state.proofs.Tests.{nowhere, some_same}
use Rattle.yw_state.specs.Identity.{Ident}
use Rattle.yw_state.specs.Map.{lexical}
use Rattle.yw_state.specs.State.{Sites, drop}
use Rattle.yw_tree.proofs.Cleared.{split_row}
use Rattle.yw_tree.proofs.Induct.{below_every_net}
use Rattle.yw_tree.proofs.Keys.{ids_are, kids, kids-append}
use Rattle.yw_tree.proofs.Law.{part_is}
use Rattle.yw_tree.proofs.Lose.{lost}
use Rattle.yw_tree.proofs.Made.{made_net}
use Rattle.yw_tree.specs.Boxed.{AreRows, AtNet, AtNode, AtRun, IsBoxedNet, IsBoxedNode, IsNetAt, head, heads, ids}
use Rattle.yw_tree.specs.Entries.{nodes, row_nodes}
use Rattle.yw_tree.specs.Shows.{ShowsNet, StandsBeside}
use Rattle.yw_tree.specs.Ways.{leads}
use Rattle.yw_tree.specs.declared.NetState.{NetState, NetState-F, every_here-NetState, out-NetState, out-roll-NetState, roll-NetState}
use Rattle.yw_tree.specs.declared.Node.{Node, out-Node}
use Rattle.yw_tree.specs.declared.Run.{Run}

pub within : {A : Type 0} (xs : List A) (k : ℕ) (x : A) → slice_get xs k ≡ Some x → k < length xs
within [] k x e = nowhere e
within (y ∷ xs) zero x e = omega arith
within (y ∷ xs) (suc k) x e = let h = within xs k x e in omega arith

-- one of a list
pub record OneOf {A : Type 0} (xs : List A) (k : ℕ) (x : A) : Type 0 where
  pub front : List A
  pub back : List A
  pub whole : xs ≡ front ++ (x ∷ back)
  pub left : remove xs k ≡ front ++ back

pub one_of : {A : Type 0} (xs : List A) (k : ℕ) (x : A) → slice_get xs k ≡ Some x → OneOf xs k x
one_of [] k x e = nowhere e
one_of (y ∷ xs) zero x e = record { front = []; back = xs; whole = ap (λ z. z ∷ xs) (some_same y x e); left = refl }
one_of (y ∷ xs) (suc k) x e = let r = one_of xs k x e in record { front = y ∷ r.front; back = r.back; whole = ap (λ z. y ∷ z) r.whole; left = ap (λ z. y ∷ z) r.left }

-- what holds of all, and the order, without one
each_remove : {A : Type 0} (Q : A → Type 0) (xs : List A) (k : ℕ) → Each Q xs → Each Q (remove xs k)
each_remove Q [] zero h = tt
each_remove Q [] (suc k) h = tt
each_remove Q (x ∷ xs) zero h = h.1
each_remove Q (x ∷ xs) (suc k) h = (h.0, each_remove Q xs k h.1)

map_remove : (ns : List Node) (k : ℕ) → map head (remove ns k) ≡ remove (map head ns) k
map_remove [] zero = refl
map_remove [] (suc k) = refl
map_remove (n ∷ ns) zero = refl
map_remove (n ∷ ns) (suc k) = ap (λ z. head n ∷ z) (map_remove ns k)

below_remove : (j : Ident) (hs : List (Ident × ℕ)) (k : ℕ) → T (below_all lexical j hs) → T (below_all lexical j (remove hs k))
below_remove j [] zero h = tt
below_remove j [] (suc k) h = tt
below_remove j (x ∷ hs) zero h = (halves _ _ h).1
below_remove j (x ∷ hs) (suc k) h = let p = halves _ _ h in joined _ _ p.0 (below_remove j hs k p.1)

sorted_remove : (hs : List (Ident × ℕ)) (k : ℕ) → T (is_sorted lexical hs) → T (is_sorted lexical (remove hs k))
sorted_remove [] zero h = tt
sorted_remove [] (suc k) h = tt
sorted_remove (x ∷ hs) zero h = (halves _ _ h).1
sorted_remove (x ∷ hs) (suc k) h = let p = halves _ _ h in joined _ _ (below_remove x.0 hs k p.0) (sorted_remove hs k p.1)

rows_removed : (n : ℕ) (vs : List (Vec Node Global)) (t k : ℕ) (v u : Vec Node Global) → slice_get vs t ≡ Some v → u.items ≡ remove v.items k → AreRows n (heads vs) → AreRows n (heads (set vs t u))
rows_removed n [] t k v u e is h = nowhere e
rows_removed n (x ∷ vs) zero k v u e is h =
    let s : map head u.items ≡ remove (map head x.items) k = ap (map head) is ∙ map_remove v.items k ∙ ap (λ (z : Vec Node Global). remove (map head z.items) k) (sym (some_same x v e)) in
    subst (λ (z : List (Ident × ℕ)). Each (λ (h : Ident × ℕ). h.1 ≡ n) z × T (is_sorted lexical z) × AreRows (n + 1) (heads vs)) (sym s) (each_remove (λ (h : Ident × ℕ). h.1 ≡ n) (map head x.items) k h.0, sorted_remove (map head x.items) k h.1, h.2)
rows_removed n (x ∷ vs) (suc t) k v u e is h = (h.0, h.1, rows_removed (n + 1) vs t k v u e is h.2)

module _ (old : NetState) (t k : ℕ) (v u : Vec Node Global) (x : Node) (at : slice_get (out-NetState old).items.items t ≡ Some v) (item : slice_get v.items k ≡ Some x) (is : u.items ≡ remove v.items k) (b : IsBoxedNet old) where
  abbrev opened : NetState-F NetState Node Run
  opened = record (out-NetState old) { items = with_item (out-NetState old).items t u }

  abbrev pub less : NetState
  less = roll-NetState (record (out-NetState old) { items = with_item (out-NetState old).items t u })

  -- the items before it, and those behind it
  abbrev before : List Node
  before = (split_row (out-NetState old).items.items t v at).front ++ (one_of v.items k x item).front

  abbrev behind : List Node
  behind = (one_of v.items k x item).back ++ (split_row (out-NetState old).items.items t v at).back

  was : nodes old ≡ before ++ (x ∷ behind)
  was =
      let r = split_row (out-NetState old).items.items t v at in
      let o = one_of v.items k x item in
      r.whole ∙ ap (λ z. r.front ++ (z ++ r.back)) o.whole ∙ ap (λ z. r.front ++ z) (append_assoc o.front (x ∷ o.back) r.back) ∙ sym (append_assoc r.front o.front (x ∷ (o.back ++ r.back)))

  rows_now : row_nodes (set (out-NetState old).items.items t u) ≡ before ++ behind
  rows_now =
      let r = split_row (out-NetState old).items.items t v at in
      let o = one_of v.items k x item in
      r.put u ∙ ap (λ z. r.front ++ (z ++ r.back)) (is ∙ o.left) ∙ ap (λ z. r.front ++ z) (append_assoc o.front o.back r.back) ∙ sym (append_assoc r.front o.front (o.back ++ r.back))

  now : nodes less ≡ before ++ behind
  now = ap (λ (l : NetState-F NetState Node Run). row_nodes l.items.items) (out-roll-NetState opened) ∙ rows_now

  one : List Node
  one = x ∷ []

  pub less_boxed : IsBoxedNet less
  less_boxed = made_net AtNet AtNode AtRun opened (rows_removed 0 (out-NetState old).items.items t k v u at is (every_here-NetState AtNet AtNode AtRun old b))
      (subst (Each IsBoxedNode) (sym rows_now) (let mid : List Node = x ∷ [] in each_ends IsBoxedNode before mid behind (subst (Each IsBoxedNode) was (below_every_net AtNet AtNode AtRun old b))))

  pub less_children : (i : Ident) (js : List Ident) → AreChildren i (ids old ++ js) → AreChildren i (ids less ++ js)
  less_children i js c =
      let mid : List Node = x ∷ [] in
      let first : ids old ++ js ≡ kids before ++ (kids mid ++ (kids behind ++ js)) =
      ap (λ z. z ++ js) (ids_are old ∙ ap kids was ∙ kids-append before (x ∷ behind)) ∙ append_assoc (kids before) ((out-Node x).id ∷ kids behind) js in
      let second : ids less ++ js ≡ kids before ++ (kids behind ++ js) = ap (λ z. z ++ js) (ids_are less ∙ ap kids now ∙ kids-append before behind) ∙ append_assoc (kids before) (kids behind) js in
      subst (AreChildren i) (sym second) (children_ends i (kids before) (kids mid) (kids behind ++ js) (subst (AreChildren i) first c))

  pub less_shows : (names : ℕ → List ℕ) (m : Sites) (i id : Ident) (beside : Entries) → leads id x ≡ true → length id ≡ length i + 1 → IsNetAt i old → StandsBeside i (ids old) beside → ShowsNet names m i beside old → ShowsNet names (drop m id) i beside less
  less_shows names m i id beside l same net_at stands shows =
      let mid : List Node = x ∷ [] in
      let c : IsChild i (out-Node x).id = each_mid (IsChild i) (kids before) (out-Node x).id (kids behind) (subst (Each (IsChild i)) (ids_are old ∙ ap kids was ∙ kids-append before (x ∷ behind)) net_at.0) in
      let e : id ≡ (out-Node x).id = under_same id id (out-Node x).id (same ∙ sym (child_length i (out-Node x).id c)) (under_refl id) l in
      subst (λ z. ShowsNet names (drop m z) i beside less) (sym e)
      (lost names m i beside old less before mid behind was now (part_is names opened) (below_every_net AtNet AtNode AtRun old b) net_at stands shows)
