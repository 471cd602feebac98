-- An item of a net that stands in a forest is the one that is found at its identity.
use Rattle.std.proofs.Common.{Bool, List, None, Option, Some, [], ap, append_assoc, arith, cond, false, length, refl, subst, suc, sym, true, zero, ℕ, ◌++◌, ◌+◌, ◌<◌, ◌∙◌, ◌∷◌, ◌≡◌, ◌≢◌, ◌≤◌}
use Rattle.std.proofs.lemmas.Bool.{eq-eqb}
use Rattle.std.specs.Prelude.{Box, is_some, option_and_then}
use Rattle.std.specs.declared.alloc.Global.{Global}
use Rattle.yw_base.specs.Identity.{under, case_number, parent}
use Rattle.yw_sites.proofs.Children.{children_front, others_off}
use Rattle.yw_sites.proofs.Each.{Each-back, each_mid}
use Rattle.yw_sites.proofs.Prefix.{child_length, child_under, not_true, same_refl, same_true, under_compare, under_length, under_refl, under_same, under_trans}
use Rattle.yw_sites.specs.Idents.{AreChildren, Each, IsChild}
use Rattle.yw_state.proofs.Tests.{by_option, by_test, map_some, never, nowhere, some_same, then_some}
use Rattle.yw_state.specs.Identity.{Ident, is_case_ident, same}
use Rattle.yw_tree.proofs.CaseLaw.{its}
use Rattle.yw_tree.proofs.ForestLaw.{item_found}
use Rattle.yw_tree.proofs.Found.{boxed_in_run, boxed_inner}
use Rattle.yw_tree.proofs.Halves.{place_is}
use Rattle.yw_tree.proofs.Induct.{below_every_net, below_every_node}
use Rattle.yw_tree.proofs.Keys.{ids_are, kids, kids-append}
use Rattle.yw_tree.proofs.NetAt.{case_ident_is, net_here}
use Rattle.yw_tree.proofs.NetHere.{NetHere}
use Rattle.yw_tree.proofs.Parents.{parent_child, parent_length, parent_there}
use Rattle.yw_tree.proofs.RunFound.{run_at_case, run_at_item}
use Rattle.yw_tree.proofs.Split.{in_net, place_leads, place_there}
use Rattle.yw_tree.proofs.Steps.{below_found, below_none, found_is, here_found, levels_are, none_found}
use Rattle.yw_tree.proofs.TaskCut.{with_its_net}
use Rattle.yw_tree.specs.Boxed.{AtNet, AtNode, AtRun, Held, IsBoxedCase, IsBoxedNet, IsBoxedNode, IsBoxedRun, IsNetAt, ids, net_ids, run_ids}
use Rattle.yw_tree.specs.Cases.{case_at}
use Rattle.yw_tree.specs.Forest.{IsForest, item_of, item_of_case, levels, top_of}
use Rattle.yw_tree.specs.Places.{net_at, net_of_run, placed_net, run_at, run_of, run_of_case, run_of_item}
use Rattle.yw_tree.specs.Ways.{case_inner, inner_of, item_below, item_in, net_in, net_in_run, net_of_item, node_at, place_of, run_leads}
use Rattle.yw_tree.specs.declared.Case.{Case}
use Rattle.yw_tree.specs.declared.Forest.{Forest}
use Rattle.yw_tree.specs.declared.NetState.{NetState}
use Rattle.yw_tree.specs.declared.Node.{Node, every_here-Node, out-Node}
use Rattle.yw_tree.specs.declared.Run.{Run, every_here-Run, out-Run}

-- ---- parts of boxes

ids_in : (o : Option (Box NetState Global)) (w : NetState) → net_in o ≡ Some w → net_ids o ≡ ids w
ids_in None w e = nowhere e
ids_in (Some b) w e = ap ids (some_same b.value w e)

net_children : (q : Ident) (o : Option (Box NetState Global)) (w : NetState) → AreChildren q (net_ids o) → net_in o ≡ Some w → IsNetAt q w
net_children q o w c e = subst (AreChildren q) (ids_in o w e) c

run_children : (q : Ident) (o : Option (Box Run Global)) (w : NetState) → Each (IsChild q) (run_ids o) → Held IsBoxedRun o → net_in_run o ≡ Some w → (p : Ident) × IsNetAt p w × (length q ≤ length p)
run_children q None w c b e = nowhere e
run_children q (Some y) w c b e =
    let long : length (out-Run y.value).id ≡ length q + 1 = child_length q (out-Run y.value).id c.0 in
    ((out-Run y.value).id, net_children (out-Run y.value).id (out-Run y.value).net w (every_here-Run AtNet AtNode AtRun y.value b) e, omega arith)

-- the net on the way down below an item stands at it or at its run
inner_at : (j : Ident) (x : Node) (w : NetState) → IsBoxedNode x → inner_of j x ≡ Some w → (p : Ident) × IsNetAt p w × (length (out-Node x).id ≤ length p)
inner_at j x w b e =
    let o = out-Node x in
    let children : AreChildren o.id (net_ids o.net ++ run_ids o.run) = every_here-Node AtNet AtNode AtRun x b in
    let down = below_every_node AtNet AtNode AtRun x b in
    by_test (run_leads j o.run)
    (λ (v : run_leads j o.run ≡ true).
    run_children o.id o.run w (Each-back (IsChild o.id) (net_ids o.net) (run_ids o.run) children.0) down.1 (ap (λ (z : Bool). cond z (net_in_run o.run) (net_in o.net)) (sym v) ∙ e))
    (λ (v : run_leads j o.run ≡ false).
    (o.id, net_children o.id o.net w (children_front o.id (net_ids o.net) (run_ids o.run) children) (ap (λ (z : Bool). cond z (net_in_run o.run) (net_in o.net)) (sym v) ∙ e), omega arith))

-- below a case
case_inner_at : (j : Ident) (c : Case) (w : NetState) → IsBoxedCase c → case_inner j c ≡ Some w → IsBoxedNet w × ((p : Ident) × IsNetAt p w × (length c.id ≤ length p))
case_inner_at j c w b e =
    by_test (run_leads j c.run)
    (λ (v : run_leads j c.run ≡ true).
    let g : net_in_run c.run ≡ Some w = ap (λ (z : Bool). cond z (net_in_run c.run) (Some c.net)) (sym v) ∙ e in
    (boxed_in_run c.run w b.run g, run_children c.id c.run w (Each-back (IsChild c.id) (ids c.net) (run_ids c.run) b.here.0) b.run g))
    (λ (v : run_leads j c.run ≡ false).
    let g : c.net ≡ w = some_same c.net w (ap (λ (z : Bool). cond z (net_in_run c.run) (Some c.net)) (sym v) ∙ e) in
    (subst IsBoxedNet g b.net, (c.id, subst (IsNetAt c.id) g (children_front c.id (ids c.net) (run_ids c.run) b.here), omega arith)))

-- two identities, one under the other, go the same way past what stands above both
alike : (id j q : Ident) (r : Option (Box Run Global)) → Each (IsChild q) (run_ids r) → length q < length j → under id j ≡ true → run_leads id r ≡ run_leads j r
alike id j q None c l u = refl
alike id j q (Some y) c l u =
    let long : length (out-Run y.value).id ≡ length q + 1 = child_length q (out-Run y.value).id c.0 in
    let fits : length (out-Run y.value).id ≤ length j = omega arith in
    by_test (under j (out-Run y.value).id)
    (λ (t : under j (out-Run y.value).id ≡ true). under_trans id j (out-Run y.value).id u t ∙ sym t)
    (λ (t : under j (out-Run y.value).id ≡ false). not_true (under id (out-Run y.value).id) (λ h. never (sym t ∙ under_compare id j (out-Run y.value).id fits u h)) ∙ sym t)

-- above an identity and another one, it is shorter
shorter : (j k : Ident) → under j k ≡ true → same k j ≡ false → length k < length j
shorter j k u h =
    let l : length k ≤ length j = under_length j k u in
    let ne : length k ≢ length j = λ e. never (sym h ∙ ap (λ v. same v j) (sym (under_same j j k (sym e) (under_refl j) u)) ∙ same_refl j) in
    omega arith

same_number : (j q : Ident) → IsChild j q → 1 ≤ length j → case_number q ≡ case_number j
same_number [] q c h = absurd (omega arith)
same_number (x ∷ xs) q c h = ap case_number c.1

not_case : (j : Ident) → 1 ≤ length j → is_case_ident j ≡ false → 2 ≤ length j
not_case j long t = let ne : length j ≢ 1 = λ e. never (sym t ∙ eq-eqb (length j) 1 e) in omega arith

-- ---- the item

module _ (f : Forest) (b : IsForest f) (i : Ident) (long : 1 ≤ length i) (short : length i ≤ 40) (u : NetState) (is : net_at f i ≡ Some u) (t k : ℕ) (n : Node) (at : node_at u t k ≡ Some n) where
  here : NetHere f i u (placed_net f i)
  here = net_here f i u b long is

  its_children : IsNetAt i u
  its_children = children_front i (ids u) here.others here.here

  among : ids u ≡ kids (in_net u t k n at).front ++ ((out-Node n).id ∷ kids (in_net u t k n at).back)
  among = let r = in_net u t k n at in ids_are u ∙ ap kids r.whole ∙ kids-append r.front (n ∷ r.back)

  pub its_child : IsChild i (out-Node n).id
  its_child = let r = in_net u t k n at in each_mid (IsChild i) (kids r.front) (out-Node n).id (kids r.back) (subst (Each (IsChild i)) among its_children.0)

  its_length : length (out-Node n).id ≡ length i + 1
  its_length = child_length i (out-Node n).id its_child

  -- in its net it is found at once
  bottom : (d : ℕ) → item_in (suc d) (out-Node n).id u ≡ Some n
  bottom d =
      found_is d (out-Node n).id u (t, k) n (place_is (out-Node n).id i u here.boxed its_children (t, k) n at (under_refl (out-Node n).id)) at
      ∙ here_found (out-Node n).id n (item_in d (out-Node n).id) (same_refl (out-Node n).id)

  at_levels : item_in levels (out-Node n).id u ≡ Some n
  at_levels = subst (λ d. item_in d (out-Node n).id u ≡ Some n) levels_are (bottom 39)

  -- a run beside it doesn't lead to it
  run_off : (r : Option (Box Run Global)) → AreChildren i (ids u ++ run_ids r) → run_leads (out-Node n).id r ≡ false
  run_off None c = refl
  run_off (Some y) c =
      let z = (out-Run y.value).id in
      let r = in_net u t k n at in
      let last : List Ident = z ∷ [] in
      let split : ids u ++ last ≡ kids r.front ++ ((out-Node n).id ∷ (kids r.back ++ last)) = ap (λ js. js ++ last) among ∙ append_assoc (kids r.front) ((out-Node n).id ∷ kids r.back) last in
      let off = others_off (out-Node n).id i (kids r.front) (out-Node n).id (kids r.back ++ last) (subst (AreChildren i) split c) (under_refl (out-Node n).id) in
      each_mid (λ j. under (out-Node n).id j ≡ false) (kids r.back) z [] off.1

  -- ---- below an item
  module _ (j : Ident) (host : Node) (down : under (out-Node n).id j ≡ true) (longer : length j < length (out-Node n).id) (inner : inner_of (out-Node n).id host ≡ Some u) where
    by_depth : (d : ℕ) → 1 ≤ d → item_in d (out-Node n).id u ≡ Some n
    by_depth zero l = absurd (omega arith)
    by_depth (suc d) l = bottom d

    -- what holds d steps down
    abbrev Goes : ℕ → Type 0
    Goes d = (s : NetState) (q : Ident) → IsBoxedNet s → IsNetAt q s → item_in d j s ≡ Some host → length (out-Node n).id ≤ length q + d → item_in d (out-Node n).id s ≡ Some n

    -- one step further, at an item of the net s that leads to j
    module _ (d : ℕ) (next : Goes d) (s : NetState) (q : Ident) (bs : IsBoxedNet s) (a : IsNetAt q s) (e : item_in (suc d) j s ≡ Some host) (l : length (out-Node n).id ≤ length q + suc d) (p : ℕ × ℕ) (placed : place_of j s ≡ Some p)
        (x : Node) (there : node_at s p.0 p.1 ≡ Some x) where
      x_boxed : IsBoxedNode x
      x_boxed = let r = in_net s p.0 p.1 x there in each_mid IsBoxedNode r.front x r.back (subst (Each IsBoxedNode) r.whole (below_every_net AtNet AtNode AtRun s bs))

      x_leads : under j (out-Node x).id ≡ true
      x_leads = place_leads j s p x placed there

      x_child : IsChild q (out-Node x).id
      x_child =
          let r = in_net s p.0 p.1 x there in
          let split : ids s ≡ kids r.front ++ ((out-Node x).id ∷ kids r.back) = ids_are s ∙ ap kids r.whole ∙ kids-append r.front (x ∷ r.back) in
          each_mid (IsChild q) (kids r.front) (out-Node x).id (kids r.back) (subst (Each (IsChild q)) split a.0)

      x_length : length (out-Node x).id ≡ length q + 1
      x_length = child_length q (out-Node x).id x_child

      goes_on : item_below (item_in d j) j x ≡ Some host
      goes_on = sym (found_is d j s p x placed there) ∙ e

      same_place : place_of (out-Node n).id s ≡ Some p
      same_place = place_is (out-Node n).id q s bs a p x there (under_trans (out-Node n).id j (out-Node x).id down x_leads)

      one_step : item_in (suc d) (out-Node n).id s ≡ item_below (item_in d (out-Node n).id) (out-Node n).id x
      one_step = found_is d (out-Node n).id s p x same_place there

      other : same (out-Node x).id (out-Node n).id ≡ false
      other = not_true (same (out-Node x).id (out-Node n).id) (λ h.
          let above : length (out-Node x).id ≤ length j = under_length j (out-Node x).id x_leads in
          let equal : length (out-Node x).id ≡ length (out-Node n).id = ap length (same_true (out-Node x).id (out-Node n).id h) in
          absurd (omega arith))

      at_host : same (out-Node x).id j ≡ true → item_in (suc d) (out-Node n).id s ≡ Some n
      at_host h =
          let it : x ≡ host = some_same x host (sym (here_found j x (item_in d j) h) ∙ goes_on) in
          let equal : length (out-Node x).id ≡ length j = ap length (same_true (out-Node x).id j h) in
          let own_length = x_length in
          let its_inner : inner_of (out-Node n).id x ≡ Some u = ap (λ z. inner_of (out-Node n).id z) it ∙ inner in
          one_step ∙ below_found (out-Node n).id x other (item_in d (out-Node n).id) u its_inner ∙ by_depth d (omega arith)

      further : same (out-Node x).id j ≡ false → (w : NetState) → inner_of j x ≡ Some w → item_in (suc d) (out-Node n).id s ≡ Some n
      further h w z =
          let o = out-Node x in
          let children : AreChildren o.id (net_ids o.net ++ run_ids o.run) = every_here-Node AtNet AtNode AtRun x x_boxed in
          let runs = Each-back (IsChild o.id) (net_ids o.net) (run_ids o.run) children.0 in
          let same_way : inner_of (out-Node n).id x ≡ Some w = ap (λ (v : Bool). cond v (net_in_run o.run) (net_in o.net)) (alike (out-Node n).id j o.id o.run runs (shorter j o.id x_leads h) down) ∙ z in
          let below = inner_at j x w x_boxed z in
          let deeper : length (out-Node x).id ≤ length below.0 = below.2 in
          let own_length = x_length in
          one_step ∙ below_found (out-Node n).id x other (item_in d (out-Node n).id) w same_way
          ∙ next w below.0 (boxed_inner j x w x_boxed z) below.1 (sym (below_found j x h (item_in d j) w z) ∙ goes_on) (omega arith)

      stepped : item_in (suc d) (out-Node n).id s ≡ Some n
      stepped =
          by_test (same (out-Node x).id j)
          at_host
          (λ (h : same (out-Node x).id j ≡ false).
          by_option (inner_of j x)
          (λ (z : inner_of j x ≡ None). nowhere (sym (below_none j x h (item_in d j) z) ∙ goes_on))
          (further h))

    through : (d : ℕ) → Goes d
    through zero s q bs a e l = nowhere e
    through (suc d) s q bs a e l =
        by_option (place_of j s)
        (λ (p : place_of j s ≡ None). nowhere (sym (none_found d j s p) ∙ e))
        (λ (p : ℕ × ℕ) (placed : place_of j s ≡ Some p).
        let x = place_there j s p placed in
        stepped d (through d) s q bs a e l p placed x.0 x.1)

    -- from the case on
    climb : item_of f j ≡ Some host → 2 ≤ length j → case_number (out-Node n).id ≡ case_number j → item_of f (out-Node n).id ≡ Some n
    climb e deep number =
        let c = then_some (item_of_case j) (case_at (case_number j) f.cases) host e in
        let s = then_some (item_in levels j) (case_inner j c.0) host c.2 in
        let own = its (λ m. []) f b (case_number j) c.0 c.1 in
        let first : length c.0.id ≡ 1 = ap length own.0 in
        let runs = Each-back (IsChild c.0.id) (ids c.0.net) (run_ids c.0.run) own.1.here.0 in
        let same_way : case_inner (out-Node n).id c.0 ≡ Some s.0 =
        ap (λ (v : Bool). cond v (net_in_run c.0.run) (Some c.0.net)) (alike (out-Node n).id j c.0.id c.0.run runs (omega arith) down) ∙ s.1 in
        let below = case_inner_at j c.0 s.0 own.1 s.1 in
        let long_enough : length c.0.id ≤ length below.1.0 = below.1.2 in
        let own_length = its_length in
        let found : item_in levels (out-Node n).id s.0 ≡ Some n =
        subst (λ d. item_in d j s.0 ≡ Some host → item_in d (out-Node n).id s.0 ≡ Some n) levels_are
        (λ g. through 40 s.0 below.1.0 below.0 below.1.1 g (omega arith)) s.2 in
        ap (λ m. option_and_then (item_of_case (out-Node n).id) (case_at m f.cases)) number
        ∙ ap (option_and_then (item_of_case (out-Node n).id)) c.1
        ∙ ap (option_and_then (item_in levels (out-Node n).id)) same_way ∙ found

  -- ---- wherever the net stands
  number_is : case_number (out-Node n).id ≡ case_number i
  number_is = same_number i (out-Node n).id its_child long

  under_net : under (out-Node n).id i ≡ true
  under_net = child_under i (out-Node n).id its_child

  in_case : (c : Case) → case_at (case_number i) f.cases ≡ Some c → case_inner (out-Node n).id c ≡ Some u → item_of f (out-Node n).id ≡ Some n
  in_case c e inner =
      ap (λ m. option_and_then (item_of_case (out-Node n).id) (case_at m f.cases)) number_is
      ∙ ap (option_and_then (item_of_case (out-Node n).id)) e
      ∙ ap (option_and_then (item_in levels (out-Node n).id)) inner ∙ at_levels

  of_case : is_case_ident i ≡ true → top_of f (case_number i) ≡ Some u → item_of f (out-Node n).id ≡ Some n
  of_case v top =
      let c = map_some (λ (d : Case). d.net) (case_at (case_number i) f.cases) u top in
      let own = its (λ m. []) f b (case_number i) c.0 c.1 in
      let same_id : c.0.id ≡ i = own.0 ∙ case_ident_is i v in
      let children : AreChildren i (ids u ++ run_ids c.0.run) =
      subst (λ w. AreChildren i (ids w ++ run_ids c.0.run)) c.2 (subst (λ z. AreChildren z (ids c.0.net ++ run_ids c.0.run)) same_id own.1.here) in
      in_case c.0 c.1 (ap (λ (z : Bool). cond z (net_in_run c.0.run) (Some c.0.net)) (run_off c.0.run children) ∙ ap (λ w. Some w) c.2)

  of_item : is_case_ident i ≡ false → (host : Node) → item_of f i ≡ Some host → net_in (out-Node host).net ≡ Some u → item_of f (out-Node n).id ≡ Some n
  of_item v host e inside =
      let o = out-Node host in
      let g = item_found f i host b e in
      let children : AreChildren o.id (net_ids o.net ++ run_ids o.run) = every_here-Node AtNet AtNode AtRun host g.1 in
      let moved : AreChildren i (ids u ++ run_ids o.run) =
      subst (λ js. AreChildren i (js ++ run_ids o.run)) (ids_in o.net u inside) (subst (λ z. AreChildren z (net_ids o.net ++ run_ids o.run)) g.0 children) in
      let inner : inner_of (out-Node n).id host ≡ Some u = ap (λ (z : Bool). cond z (net_in_run o.run) (net_in o.net)) (run_off o.run moved) ∙ inside in
      let own_length = its_length in
      climb i host under_net (omega arith) inner e (not_case i long v) number_is

  -- a run that stands at i leads to what is below i
  through_run : (r : Run) → net_in (out-Run r).net ≡ Some u → (o : Option (Box Run Global)) → run_at i o ≡ Some r → (run_leads (out-Node n).id o ≡ true) × (net_in_run o ≡ Some u)
  through_run r inside None h = nowhere h
  through_run r inside (Some y) h =
      by_test (same (out-Run y.value).id i)
      (λ (v : same (out-Run y.value).id i ≡ true).
      let it : y.value ≡ r = some_same y.value r (sym (ap (λ (z : Bool). cond z (Some y.value) None) v) ∙ h) in (
        ap (λ z. under (out-Node n).id z) (same_true (out-Run y.value).id i v) ∙ under_net,
        ap (λ w. net_in (out-Run w).net) it ∙ inside,
      ))
      (λ (v : same (out-Run y.value).id i ≡ false). nowhere (sym (ap (λ (z : Bool). cond z (Some y.value) None) v) ∙ h))

  of_run : is_case_ident i ≡ false → (r : Run) → run_of f i ≡ Some r → net_in (out-Run r).net ≡ Some u → item_of f (out-Node n).id ≡ Some n
  of_run v r e inside =
      let up = parent i in
      let step : IsChild (parent i) i = parent_child i long in
      by_test (is_case_ident (parent i))
      (λ (w : is_case_ident (parent i) ≡ true).
      let c = then_some (run_of_case i) (case_at (case_number i) f.cases) r (sym (run_at_case f i v w) ∙ e) in
      let g = through_run r inside c.0.run c.2 in
      in_case c.0 c.1 (ap (λ (z : Bool). cond z (net_in_run c.0.run) (Some c.0.net)) g.0 ∙ g.1))
      (λ (w : is_case_ident (parent i) ≡ false).
      let host = then_some (run_of_item i) (item_of f (parent i)) r (sym (run_at_item f i v w) ∙ e) in
      let o = out-Node host.0 in
      let g = through_run r inside o.run host.2 in
      let above : 1 ≤ length (parent i) = parent_there i long v in
      let less = parent_length i in
      let own_length = its_length in
      climb (parent i) host.0 (under_trans (out-Node n).id i (parent i) under_net (child_under (parent i) i step)) (omega arith)
      (ap (λ (z : Bool). cond z (net_in_run o.run) (net_in o.net)) g.0 ∙ g.1) host.1 (not_case (parent i) above w) (number_is ∙ same_number (parent i) i step above))

  abbrev rest : Option NetState
  rest = cond (is_some (item_of f i)) (net_of_item (item_of f i)) (net_of_run (run_of f i))

  pub item_there : item_of f (out-Node n).id ≡ Some n
  item_there =
      by_test (is_case_ident i)
      (λ (v : is_case_ident i ≡ true). of_case v (sym (ap (λ (z : Bool). cond z (top_of f (case_number i)) rest) v) ∙ is))
      (λ (v : is_case_ident i ≡ false).
      let below : rest ≡ Some u = sym (ap (λ (z : Bool). cond z (top_of f (case_number i)) rest) v) ∙ is in
      by_test (is_some (item_of f i))
      (λ (w : is_some (item_of f i) ≡ true).
      let g = with_its_net (item_of f i) u (sym (ap (λ (z : Bool). cond z (net_of_item (item_of f i)) (net_of_run (run_of f i))) w) ∙ below) in
      of_item v g.0 g.1 g.2)
      (λ (w : is_some (item_of f i) ≡ false).
      let g : net_of_run (run_of f i) ≡ Some u = sym (ap (λ (z : Bool). cond z (net_of_item (item_of f i)) (net_of_run (run_of f i))) w) ∙ below in
      by_option (run_of f i)
      (λ (o : run_of f i ≡ None). nowhere (sym (ap net_of_run o) ∙ g))
      (λ (r : Run) (o : run_of f i ≡ Some r). of_run v r o (sym (ap net_of_run o) ∙ g))))
