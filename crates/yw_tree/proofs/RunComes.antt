-- A run that comes to a case or an item.
use Rattle.std.proofs.Common.{List, None, Option, Some, [], ap, arith, cond, false, length, refl, subst, sym, true, ℕ, ◌++◌, ◌∙◌, ◌∷◌, ◌≡◌, ◌≤◌}
use Rattle.std.specs.FinMap.Entries.{find}
use Rattle.std.specs.Prelude.{Box, IsTrue, is_some, option_and_then}
use Rattle.std.specs.declared.alloc.Global.{Global}
use Rattle.yw_sites.proofs.Each.{nil_right}
use Rattle.yw_sites.proofs.Gained.{gained_below}
use Rattle.yw_sites.proofs.Parts.{below_was}
use Rattle.yw_sites.proofs.Prefix.{child_length, child_of, child_strictly}
use Rattle.yw_sites.specs.Entries.{AllUnder, Entries, Swaps}
use Rattle.yw_sites.specs.Idents.{AreChildren, Each, IsChild}
use Rattle.yw_state.proofs.Tests.{never, nowhere}
use Rattle.yw_state.specs.Identity.{Ident, case_ident, is_case_ident, is_child, strictly_under}
use Rattle.yw_base.specs.Identity.{case_number}
use Rattle.yw_state.specs.Map.{get, insert, lexical}
use Rattle.yw_tree.proofs.CaseLaw.{its, placing, under_is, under_was}
use Rattle.yw_tree.proofs.Equations.{run_entries_is}
use Rattle.yw_tree.proofs.ForestLaw.{InCase, item_found}
use Rattle.yw_tree.proofs.Induct.{below_every_node}
use Rattle.yw_tree.proofs.ItemAdded.{children_more}
use Rattle.yw_tree.proofs.ItemComes.{none_found}
use Rattle.yw_tree.proofs.Made.{made_node, made_run}
use Rattle.yw_tree.proofs.NetLaw.{placing as item_placing, site_open, under_is as item_is_under, under_was as item_was_under}
use Rattle.yw_tree.proofs.Stand.{each_map, items_known}
use Rattle.yw_tree.specs.Boxed.{AtNet, AtNode, AtRun, Held, IsBoxedCase, IsBoxedNet, IsBoxedNode, IsBoxedRun, head, ids, net_ids, run_ids}
use Rattle.yw_tree.specs.Cases.{case_at}
use Rattle.yw_tree.specs.Entries.{below_net, below_run, case_site, item_site, net_entries, run_entries, run_site}
use Rattle.yw_tree.specs.Forest.{IsForest, entries, item_of, item_replaced, sites_of}
use Rattle.yw_tree.specs.Places.{hung_at, placed_case}
use Rattle.yw_tree.specs.Spots.{part_at}
use Rattle.yw_tree.specs.declared.Case.{Case}
use Rattle.yw_tree.specs.declared.Forest.{Forest}
use Rattle.yw_tree.specs.declared.NetState.{NetState}
use Rattle.yw_tree.specs.declared.Node.{Node, Node-F, every_here-Node, out-Node, roll-Node, roll-out-Node}
use Rattle.yw_tree.specs.declared.Run.{Run, out-Run, roll-out-Run}

abbrev Level : Type 0
Level = Node-F NetState Node Run

-- ---- at which no run hangs
pub case_idle : (f : Forest) (id : Ident) (c : Case) → is_case_ident id ≡ true → case_at (case_number id) f.cases ≡ Some c → hung_at f id ≡ None → c.run ≡ None
case_idle f id c t e idle =
    ap (option_and_then (λ (d : Case). d.run)) (sym e)
    ∙ ap (λ z. cond z (option_and_then (λ (d : Case). d.run) (case_at (case_number id) f.cases)) (option_and_then (λ (n : Node). (out-Node n).run) (item_of f id))) (sym t)
    ∙ idle

pub item_idle : (f : Forest) (id : Ident) (n : Node) → is_case_ident id ≡ false → item_of f id ≡ Some n → hung_at f id ≡ None → (out-Node n).run ≡ None
item_idle f id n t e idle =
    ap (option_and_then (λ (m : Node). (out-Node m).run)) (sym e)
    ∙ ap (λ z. cond z (option_and_then (λ (d : Case). d.run) (case_at (case_number id) f.cases)) (option_and_then (λ (m : Node). (out-Node m).run) (item_of f id))) (sym t)
    ∙ idle

-- ---- a run without a net
run_alone_boxed : (r : Run) → (out-Run r).net ≡ None → IsBoxedRun r
run_alone_boxed r no_net =
    let l = out-Run r in
    let nothing : AreChildren l.id [] = (tt, tt) in
    subst IsBoxedRun (roll-out-Run r) (made_run AtNet AtNode AtRun l (subst (λ z. AreChildren l.id (net_ids z)) (sym no_net) nothing) (none_held l.net no_net))
  where
    none_held : (o : Option (Box NetState Global)) → o ≡ None → Held IsBoxedNet o
    none_held None e = tt
    none_held (Some b) e = nowhere (sym e)

run_alone : (names : ℕ → List ℕ) (r : Run) → (out-Run r).net ≡ None → run_entries names r ≡ ((out-Run r).id, run_site names r) ∷ []
run_alone names r no_net = run_entries_is names r ∙ ap (λ z. ((out-Run r).id, run_site names r) ∷ below_net names z) no_net

held_known : (names : ℕ → List ℕ) (o : Option (Box NetState Global)) → Each (λ j. is_some (find lexical j (below_net names o)) ≡ true) (net_ids o)
held_known names None = tt
held_known names (Some x) = items_known names x.value

-- an identity at which nothing stands is none of these
differ : (k : Ident) (es : Entries) (js : List Ident) → find lexical k es ≡ None → Each (λ j. is_some (find lexical j es) ≡ true) js → Each (λ j. k ≡ j → ⊥) js
differ k es js none known = each_map (λ j. is_some (find lexical j es) ≡ true) (λ j. k ≡ j → ⊥) (λ j there e. never (sym (ap is_some none) ∙ ap (λ z. is_some (find lexical z es)) e ∙ there)) js known

one_more : (i k : Ident) (js : List Ident) → AreChildren i js → IsChild i k → Each (λ j. k ≡ j → ⊥) js → AreChildren i (js ++ (k ∷ []))
one_more i k js c ck d =
    let back : List Ident = [] in
    let whole = sym (nil_right js) in
    children_more i k js back (subst (AreChildren i) whole c) ck (subst (Each (λ j. k ≡ j → ⊥)) whole d)

module _ (f : Forest) (b : IsForest f) (id : Ident) (short : length id ≤ 40) (run : Box Run Global) (child : is_child (out-Run run.value).id id ≡ true) (vacant : part_at f (out-Run run.value).id ≡ None) (no_net : (out-Run run.value).net ≡ None) where
  strict : IsTrue (strictly_under (out-Run run.value).id id)
  strict = child_strictly (out-Run run.value).id id child

  nothing_there : (names : ℕ → List ℕ) → get (sites_of names f) (out-Run run.value).id ≡ None
  nothing_there names =
      let l = child_length id (out-Run run.value).id (child_of (out-Run run.value).id id child) in
      let at_least : 1 ≤ length (out-Run run.value).id = omega arith in
      let at_most : length (out-Run run.value).id ≤ 41 = omega arith in
      none_found names f (out-Run run.value).id b at_least at_most vacant

  -- ---- to a case
  module _ (n : ℕ) (c : Case) (at : case_at n f.cases ≡ Some c) (is : case_ident n ≡ id) (idle : c.run ≡ None) where
    abbrev with_it : Case
    with_it = record c { run = Some run }

    -- what stood below it
    below_is : (names : ℕ → List ℕ) → (net_entries names c.net).1 ++ below_run names c.run ≡ (net_entries names c.net).1
    below_is names = ap (λ z. (net_entries names c.net).1 ++ below_run names z) idle ∙ nil_right (net_entries names c.net).1

    none_below : (names : ℕ → List ℕ) → find lexical (out-Run run.value).id ((net_entries names c.net).1) ≡ None
    none_below names =
        let i = its names f b n c at in
        let below = (net_entries names c.net).1 ++ below_run names c.run in
        sym (ap (find lexical (out-Run run.value).id) (below_is names))
        ∙ sym (below_was (case_ident n) (case_site names c) (case_site names c) below below (entries names f) (entries names (placed_case f n c)) (placing names f b n c at c refl i.1).0 (under_was names f b n c at c refl i.1) (under_is names f b n c at c refl i.1)
        (out-Run run.value).id (subst (λ z. IsTrue (strictly_under (out-Run run.value).id z)) (sym is) strict))
        ∙ nothing_there names

    with_boxed : IsBoxedCase (record c { run = Some run })
    with_boxed =
        let names : ℕ → List ℕ = λ x. [] in
        let i = its names f b n c at in
        let alone : AreChildren c.id (ids c.net) = subst (AreChildren c.id) (nil_right (ids c.net)) (subst (λ z. AreChildren c.id (ids c.net ++ run_ids z)) idle i.1.here) in
        let its_child : IsChild c.id (out-Run run.value).id = subst (λ z. IsChild z (out-Run run.value).id) (sym (i.0 ∙ is)) (child_of (out-Run run.value).id id child) in
        record {
          here = one_more c.id (out-Run run.value).id (ids c.net) alone its_child (differ (out-Run run.value).id ((net_entries names c.net).1) (ids c.net) (none_below names) (items_known names c.net));
          net = i.1.net;
          run = run_alone_boxed run.value no_net;
        }

    pub run_comes_to_case : (names : ℕ → List ℕ) → (sites_of names (placed_case f n (record c { run = Some run })) ≡ insert (sites_of names f) (out-Run run.value).id (run_site names run.value)) × IsForest (placed_case f n (record c { run = Some run }))
    run_comes_to_case names =
        let d : Case = record c { run = Some run } in
        let net = (net_entries names c.net).1 in
        let one : Entries = ((out-Run run.value).id, run_site names run.value) ∷ [] in
        let p = placing names f b n c at d refl with_boxed in
        let g : Forest = placed_case f n d in
        let x = case_site names c in
        let i = case_ident n in
        let was = below_is names in
        let now : net ++ run_entries names run.value ≡ net ++ one = ap (λ z. net ++ z) (run_alone names run.value no_net) in
        let s : Swaps i ((i, x) ∷ net) ((i, x) ∷ (net ++ one)) (entries names f) (entries names g) =
        subst (λ z. Swaps i ((i, x) ∷ net) ((i, x) ∷ z) (entries names f) (entries names g)) now (subst (λ z. Swaps i ((i, x) ∷ z) ((i, x) ∷ (net ++ run_entries names run.value)) (entries names f) (entries names g)) was p.0) in
        let under_net = subst (AllUnder i) was (under_was names f b n c at d refl with_boxed) in
        let below : IsTrue (strictly_under (out-Run run.value).id i) = subst (λ z. IsTrue (strictly_under (out-Run run.value).id z)) (sym is) strict in
        (gained_below i (out-Run run.value).id x (run_site names run.value) net (entries names f) (entries names g) s under_net below (nothing_there names), p.1)

  -- ---- to an item
  module _ (within : InCase id) (old w : Node) (e : item_of f id ≡ Some old) (idle : (out-Node old).run ≡ None) (is : out-Node w ≡ record (out-Node old) { run = Some run }) where
    item_head : head w ≡ head old
    item_head = ap (λ (z : Level). (z.id, z.task)) is

    item_below_is : (names : ℕ → List ℕ) → below_net names (out-Node old).net ++ below_run names (out-Node old).run ≡ below_net names (out-Node old).net
    item_below_is names = ap (λ z. below_net names (out-Node old).net ++ below_run names z) idle ∙ nil_right (below_net names (out-Node old).net)

    none_below_item : (names : ℕ → List ℕ) → find lexical (out-Run run.value).id (below_net names (out-Node old).net) ≡ None
    none_below_item names =
        let g = item_found f id old b e in
        let below = below_net names (out-Node old).net ++ below_run names (out-Node old).run in
        sym (ap (find lexical (out-Run run.value).id) (item_below_is names))
        ∙ sym (below_was id (item_site names old) (item_site names old) below below (entries names f) (entries names (item_replaced f id old)) (item_placing names f id old b within e old refl g.1).0 (item_was_under names f id old b within e old refl g.1) (item_is_under names f id old b within e old refl g.1)
        (out-Run run.value).id strict)
        ∙ nothing_there names

    item_boxed : IsBoxedNode w
    item_boxed =
        let names : ℕ → List ℕ = λ x. [] in
        let g = item_found f id old b e in
        let l = out-Node old in
        let m : Level = record (out-Node old) { run = Some run } in
        let here : AreChildren l.id (net_ids l.net ++ run_ids l.run) = every_here-Node AtNet AtNode AtRun old g.1 in
        let alone : AreChildren l.id (net_ids l.net) = subst (AreChildren l.id) (nil_right (net_ids l.net)) (subst (λ z. AreChildren l.id (net_ids l.net ++ run_ids z)) idle here) in
        let its_child : IsChild l.id (out-Run run.value).id = subst (λ z. IsChild z (out-Run run.value).id) (sym g.0) (child_of (out-Run run.value).id id child) in
        subst IsBoxedNode (sym (ap roll-Node is) ∙ roll-out-Node w)
        (made_node AtNet AtNode AtRun m (one_more l.id (out-Run run.value).id (net_ids l.net) alone its_child (differ (out-Run run.value).id (below_net names l.net) (net_ids l.net) (none_below_item names) (held_known names l.net)))
        (below_every_node AtNet AtNode AtRun old g.1).0 (run_alone_boxed run.value no_net))

    pub run_comes_to_item : (names : ℕ → List ℕ) → (sites_of names (item_replaced f id w) ≡ insert (sites_of names f) (out-Run run.value).id (run_site names run.value)) × IsForest (item_replaced f id w)
    run_comes_to_item names =
        let net = below_net names (out-Node old).net in
        let one : Entries = ((out-Run run.value).id, run_site names run.value) ∷ [] in
        let p = item_placing names f id old b within e w item_head item_boxed in
        let g : Forest = item_replaced f id w in
        let x = item_site names old in
        let own : item_site names w ≡ x = ap (site_open names) is in
        let was = item_below_is names in
        let now : below_net names (out-Node w).net ++ below_run names (out-Node w).run ≡ net ++ one = ap (λ (z : Level). below_net names z.net ++ below_run names z.run) is ∙ ap (λ z. net ++ z) (run_alone names run.value no_net) in
        let s : Swaps id ((id, x) ∷ net) ((id, x) ∷ (net ++ one)) (entries names f) (entries names g) =
        subst (λ z. Swaps id ((id, x) ∷ net) ((id, x) ∷ z) (entries names f) (entries names g)) now
        (subst (λ z. Swaps id ((id, x) ∷ net) ((id, z) ∷ (below_net names (out-Node w).net ++ below_run names (out-Node w).run)) (entries names f) (entries names g)) own
        (subst (λ z. Swaps id ((id, x) ∷ z) ((id, item_site names w) ∷ (below_net names (out-Node w).net ++ below_run names (out-Node w).run)) (entries names f) (entries names g)) was p.0)) in
        let under_net = subst (AllUnder id) was (item_was_under names f id old b within e w item_head item_boxed) in
        (gained_below id (out-Run run.value).id x (run_site names run.value) net (entries names f) (entries names g) s under_net strict (nothing_there names), p.1)
