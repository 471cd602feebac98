-- Whether something is urgent, asked of the boxes and asked of their entries.
use Rattle.std.below.std_alloc.specs.formers.vec.Vec.{mapped}
use Rattle.std.proofs.Common.{Bool, List, None, Option, Some, [], ap, append_assoc, arith, false, length, map, refl, subst, sym, true, ℕ, ◌++◌, ◌+◌, ◌∙◌, ◌∷◌, ◌≡◌}
use Rattle.std.proofs.lemmas.Bool.{and_parts, not-true}
use Rattle.std.proofs.lemmas.List.Folds.{list_any-append}
use Rattle.std.specs.List.{list_any}
use Rattle.std.specs.Prelude.{Box, Vec, is_none, is_some, not, ◌&&◌, ◌==◌, ◌||◌}
use Rattle.std.specs.declared.alloc.Global.{Global}
use Rattle.yw_base.specs.Identity.{under}
use Rattle.yw_sites.proofs.Children.{children_front, strictly}
use Rattle.yw_sites.proofs.Each.{Each-append, Each-back, Each-front, each_mid, nil_right}
use Rattle.yw_sites.proofs.HeldAlong.{and_none, any_same, each_by}
use Rattle.yw_sites.proofs.Prefix.{child_length, child_of, child_strict, is_child_of, not_true, other_child, same_refl, under_refl, under_same, under_trans}
use Rattle.yw_sites.proofs.Swaps.{keys_apart}
use Rattle.yw_sites.specs.Entries.{AllUnder, Entries, Entry, NoneUnder}
use Rattle.yw_sites.specs.Idents.{AreChildren, Each, IsChild}
use Rattle.yw_state.proofs.Tests.{never}
use Rattle.yw_state.specs.Identity.{Ident, is_child, same, strictly_under}
use Rattle.yw_state.specs.State.{Site}
use Rattle.yw_state.specs.Words.{any_due, is_at_work}
use Rattle.yw_tree.proofs.Asked.{held_off, net_off}
use Rattle.yw_tree.proofs.Beside.{run_beside}
use Rattle.yw_tree.proofs.Equations.{net_entries_is, node_entries_is, run_entries_is}
use Rattle.yw_tree.proofs.HeldWalk.{below_strictly, run_strictly}
use Rattle.yw_tree.proofs.Induct.{below_every_net, below_every_node, below_every_run, each_net, each_run}
use Rattle.yw_tree.proofs.Keys.{ids_are, kids, node_keys, run_keys}
use Rattle.yw_tree.proofs.Law.{list_apart}
use Rattle.yw_tree.specs.Boxed.{AtNet, AtNode, AtRun, Held, IsBoxedCase, IsBoxedNet, IsBoxedNode, IsBoxedRun, IsNetAt, ids, net_ids, run_ids}
use Rattle.yw_tree.specs.Entries.{below_net, below_run, case_entries, case_site, flat, item_site, net_entries, node_entries, nodes, row_nodes, run_entries, run_site}
use Rattle.yw_tree.specs.Holding.{any, any_vec, if_there, urgent_below, urgent_case, urgent_hung, urgent_net, urgent_net_step, urgent_node, urgent_node_step, urgent_run, urgent_run_step}
use Rattle.yw_tree.specs.declared.Case.{Case}
use Rattle.yw_tree.specs.declared.NetState.{NetState, fold_out-NetState, out-NetState}
use Rattle.yw_tree.specs.declared.NetState.TheShapes.{former-Node-net, former-Node-run}
use Rattle.yw_tree.specs.declared.Node.{Node, every_here-Node, fold_out-Node, out-Node}
use Rattle.yw_tree.specs.declared.Run.{Run, every_here-Run, fold_out-Run, out-Run}

-- ---- the equations of what is asked of the boxes, one level at a time
any_is : (xs : List Node) → any (map urgent_node xs) ≡ list_any urgent_node xs
any_is [] = refl
any_is (x ∷ xs) = ap (λ z. urgent_node x || z) (any_is xs)

any_vec_is : (vs : List (Vec Node Global)) → any_vec (map (mapped urgent_node) vs) ≡ list_any urgent_node (row_nodes vs)
any_vec_is [] = refl
any_vec_is (v ∷ vs) = (λ j. any_is v.items j || any_vec_is vs j) ∙ sym (list_any-append urgent_node v.items (row_nodes vs))

pub urgent_net_is : (s : NetState) → urgent_net s ≡ list_any urgent_node (nodes s)
urgent_net_is s = fold_out-NetState Bool Bool Bool urgent_net_step urgent_node_step urgent_run_step s ∙ any_vec_is (out-NetState s).items.items

held_is : (o : Option (Box NetState Global)) → if_there (former-Node-net.map NetState Bool urgent_net o) ≡ urgent_below o
held_is None = refl
held_is (Some b) = refl

hung_is : (o : Option (Box Run Global)) → if_there (former-Node-run.map Run Bool urgent_run o) ≡ urgent_hung o
hung_is None = refl
hung_is (Some b) = refl

none_is : (o : Option (Box Run Global)) → is_none (former-Node-run.map Run Bool urgent_run o) ≡ is_none o
none_is None = refl
none_is (Some b) = refl

pub urgent_node_is : (n : Node) → urgent_node n ≡ (any_due (out-Node n).due && is_none (out-Node n).run || urgent_below (out-Node n).net || urgent_hung (out-Node n).run)
urgent_node_is n = fold_out-Node Bool Bool Bool urgent_net_step urgent_node_step urgent_run_step n
    ∙ (λ j. any_due (out-Node n).due && none_is (out-Node n).run j || held_is (out-Node n).net j || hung_is (out-Node n).run j)

pub urgent_run_is : (r : Run) → urgent_run r ≡ (not (out-Run r).waiting || urgent_below (out-Run r).net)
urgent_run_is r = fold_out-Run Bool Bool Bool urgent_net_step urgent_node_step urgent_run_step r ∙ (λ j. not (out-Run r).waiting || held_is (out-Run r).net j)

-- ---- asked of entries
abbrev pub busy_among : Entries → Ident → Bool
busy_among all j = list_any (λ (r : Entry). is_some r.1.run && is_child r.0 j) all

abbrev pub urgent_entry : Entries → Entry → Bool
urgent_entry all e = any_due e.1.due && not (busy_among all e.0) || is_at_work e.1.run

pub or_none : (a : Bool) → (a || false) ≡ a
or_none true = refl
or_none false = refl

or_assoc : (a b c : Bool) → (a || (b || c)) ≡ ((a || b) || c)
or_assoc true b c = refl
or_assoc false b c = refl

pub any_none : {X : Type 0} (p : X → Bool) (xs : List X) → Each (λ x. p x ≡ false) xs → list_any p xs ≡ false
any_none p [] h = refl
any_none p (x ∷ xs) h = (λ j. h.0 j || any_none p xs h.1 j)

-- what stands elsewhere makes nothing busy under k
not_busy : (k q : Ident) (es : Entries) → under q k ≡ true → NoneUnder k es → busy_among es q ≡ false
not_busy k q es u h = any_none (λ (r : Entry). is_some r.1.run && is_child r.0 q) es
    (each_by (λ (r : Entry). under r.0 k ≡ false) (λ (r : Entry). (is_some r.1.run && is_child r.0 q) ≡ false) (λ r off.
    let none : under r.0 q ≡ false = not_true (under r.0 q) (λ t. never (sym off ∙ under_trans r.0 q k t u)) in
    ap (λ z. is_some r.1.run && (z && length r.0 == length q + 1)) none ∙ and_none (is_some r.1.run)) es h)

-- so what is urgent under k is found among the entries under k
module _ (k : Ident) (pre xs post : Entries) (u : AllUnder k xs) (before : NoneUnder k pre) (behind : NoneUnder k post) where
  busy_alone : (q : Ident) → under q k ≡ true → busy_among (pre ++ (xs ++ post)) q ≡ busy_among xs q
  busy_alone q t =
      let p = λ (r : Entry). is_some r.1.run && is_child r.0 q in
      list_any-append p pre (xs ++ post) ∙ (λ j. not_busy k q pre t before j || list_any-append p xs post j)
      ∙ ap (λ z. list_any p xs || z) (not_busy k q post t behind) ∙ or_none (list_any p xs)

  pub urgent_alone : list_any (urgent_entry (pre ++ (xs ++ post))) xs ≡ list_any (urgent_entry xs) xs
  urgent_alone = any_same (urgent_entry (pre ++ (xs ++ post))) (urgent_entry xs) xs
      (each_by (λ (e : Entry). under e.0 k ≡ true) (λ (e : Entry). urgent_entry (pre ++ (xs ++ post)) e ≡ urgent_entry xs e)
      (λ e t. ap (λ z. any_due e.1.due && not z || is_at_work e.1.run) (busy_alone e.0 t)) xs u)

module _ (names : ℕ → List ℕ) where
  abbrev ents : Node → Entries
  ents = node_entries names

  abbrev UNode : Node → Type 0
  UNode n = IsBoxedNode n → list_any (urgent_entry (ents n)) (ents n) ≡ urgent_node n

  abbrev URun : Run → Type 0
  URun r = IsBoxedRun r → list_any (urgent_entry (run_entries names r)) (run_entries names r) ≡ urgent_run r

  -- in a net that stands at i, with other entries before it and behind it
  abbrev UNet : NetState → Type 0
  UNet s = (i : Ident) (pre post : Entries) → IsBoxedNet s → IsNetAt i s → Each (λ j. NoneUnder j pre) (ids s) → Each (λ j. NoneUnder j post) (ids s)
      → list_any (urgent_entry (pre ++ ((net_entries names s).1 ++ post))) (net_entries names s).1 ≡ urgent_net s

  -- ---- the items of a net, one after another
  apart_more : (i : Ident) (n : Node) → IsBoxedNode n → IsChild i (out-Node n).id → (pre : Entries) (js : List Ident) → Each (IsChild i) js → Each (λ k. (out-Node n).id ≡ k → ⊥) js → Each (λ j. NoneUnder j pre) js → Each (λ j. NoneUnder j (pre ++ ents n)) js
  apart_more i n b c pre [] cs d h = tt
  apart_more i n b c pre (j ∷ js) cs d h = (
    Each-append (λ (e : Entry). under e.0 j ≡ false) pre (ents n) h.0
        (keys_apart j i (out-Node n).id c (strictly j i j cs.0 (under_refl j)) (other_child j i j (out-Node n).id cs.0 c (λ e. d.0 (sym e)) (under_refl j)) (ents n) (node_keys names n b)),
    apart_more i n b c pre js cs.1 d.1 h.1,
  )

  off_rest : (i j : Ident) → IsChild i j → (ks : List Ident) → Each (IsChild i) ks → Each (λ k. j ≡ k → ⊥) ks → Each (λ k. under j k ≡ false) ks
  off_rest i j c [] d n = tt
  off_rest i j c (k ∷ ks) d n = (other_child j i j k c d.0 n.0 (under_refl j), off_rest i j c ks d.1 n.1)

  of_list : (i : Ident) (pre : Entries) (ns : List Node) (post : Entries) → Each UNode ns → Each IsBoxedNode ns → AreChildren i (kids ns) → Each (λ j. NoneUnder j pre) (kids ns) → Each (λ j. NoneUnder j post) (kids ns)
      → list_any (urgent_entry (pre ++ (flat ents ns ++ post))) (flat ents ns) ≡ list_any urgent_node ns
  of_list i pre [] post h b c before behind = refl
  of_list i pre (n ∷ ns) post h b c before behind =
      let j = (out-Node n).id in
      let rest = flat ents ns in
      let next : Entries = rest ++ post in
      let whole = pre ++ ((ents n ++ rest) ++ post) in
      let apart = list_apart names j i (strictly j i j c.0.0 (under_refl j)) ns b.1 c.0.1 (off_rest i j c.0.0 (kids ns) c.0.1 c.1.0) in
      let first : whole ≡ pre ++ (ents n ++ next) = ap (λ z. pre ++ z) (append_assoc (ents n) rest post) in
      let second : whole ≡ (pre ++ ents n) ++ next = first ∙ sym (append_assoc pre (ents n) next) in
      let here : list_any (urgent_entry whole) (ents n) ≡ urgent_node n =
      ap (λ z. list_any (urgent_entry z) (ents n)) first
      ∙ urgent_alone j pre (ents n) next (node_keys names n b.0) before.0 (Each-append (λ (e : Entry). under e.0 j ≡ false) rest post apart behind.0)
      ∙ h.0 b.0 in
      let others : list_any (urgent_entry whole) rest ≡ list_any urgent_node ns =
      ap (λ z. list_any (urgent_entry z) rest) second
      ∙ of_list i (pre ++ ents n) ns post h.1 b.1 (c.0.1, c.1.1) (apart_more i n b.0 c.0.0 pre (kids ns) c.0.1 c.1.0 before.1) behind.1 in
      list_any-append (urgent_entry whole) (ents n) rest ∙ (λ z. here z || others z)

  of_net : (s : NetState) → Each UNode (nodes s) → UNet s
  of_net s h i pre post b a before behind =
      let at_kids = subst (AreChildren i) (ids_are s) a in
      ap (λ z. list_any (urgent_entry (pre ++ (z.1 ++ post))) z.1) (net_entries_is names s)
      ∙ of_list i pre (nodes s) post h (below_every_net AtNet AtNode AtRun s b) at_kids (subst (Each (λ j. NoneUnder j pre)) (ids_are s) before) (subst (Each (λ j. NoneUnder j post)) (ids_are s) behind)
      ∙ sym (urgent_net_is s)

  -- ---- what isn't a run makes nothing busy
  no_run_child : (k : Ident) (n : Node) → IsBoxedNode n → IsChild k (out-Node n).id → Each (λ (r : Entry). (is_some r.1.run && is_child r.0 k) ≡ false) (ents n)
  no_run_child k n b c =
      let o = out-Node n in
      let down = below_every_node AtNet AtNode AtRun n b in
      let children : AreChildren o.id (net_ids o.net ++ run_ids o.run) = every_here-Node AtNet AtNode AtRun n b in
      let none : Ident = [] in
      let strict = Each-append _ (below_net names o.net) (below_run names o.run) (below_strictly names none o.id o.net down.0 (children_front o.id (net_ids o.net) (run_ids o.run) children))
      (run_strictly names none o.id o.run down.1 (Each-back (IsChild o.id) (net_ids o.net) (run_ids o.run) children.0)) in
      subst (Each (λ (r : Entry). (is_some r.1.run && is_child r.0 k) ≡ false)) (sym (node_entries_is names n))
      (refl, each_by _ (λ (r : Entry). (is_some r.1.run && is_child r.0 k) ≡ false) (λ r s. deeper r s) (below_net names o.net ++ below_run names o.run) strict)
    where
      deeper : (r : Entry) → strictly_under r.0 (out-Node n).id ≡ true → (is_some r.1.run && is_child r.0 k) ≡ false
      deeper r s =
          let not_child : is_child r.0 k ≡ false = not_true (is_child r.0 k) (λ t.
          let p = and_parts (under r.0 (out-Node n).id) (not (same r.0 (out-Node n).id)) s in
          let q = child_of r.0 k t in
          let l = child_length k (out-Node n).id c in
          let m = child_length k r.0 q in
          let equal : length r.0 ≡ length (out-Node n).id = omega arith in
          let it : r.0 ≡ (out-Node n).id = under_same r.0 r.0 (out-Node n).id equal (under_refl r.0) p.0 in
          never (sym (not-true (same r.0 (out-Node n).id) p.1) ∙ ap (λ z. same z (out-Node n).id) it ∙ same_refl (out-Node n).id)) in
          ap (λ z. is_some r.1.run && z) not_child ∙ and_none (is_some r.1.run)

  no_run_list : (k : Ident) (ns : List Node) → Each IsBoxedNode ns → Each (IsChild k) (kids ns) → Each (λ (r : Entry). (is_some r.1.run && is_child r.0 k) ≡ false) (flat ents ns)
  no_run_list k [] b c = tt
  no_run_list k (n ∷ ns) b c = Each-append (λ (r : Entry). (is_some r.1.run && is_child r.0 k) ≡ false) (ents n) (flat ents ns) (no_run_child k n b.0 c.0) (no_run_list k ns b.1 c.1)

  no_run_net : (k : Ident) (s : NetState) → IsBoxedNet s → Each (IsChild k) (ids s) → busy_among (net_entries names s).1 k ≡ false
  no_run_net k s b c =
      ap (λ z. busy_among z.1 k) (net_entries_is names s)
      ∙ any_none (λ (r : Entry). is_some r.1.run && is_child r.0 k) (flat ents (nodes s)) (no_run_list k (nodes s) (below_every_net AtNet AtNode AtRun s b) (subst (Each (IsChild k)) (ids_are s) c))

  no_run_held : (k : Ident) (o : Option (Box NetState Global)) → Held IsBoxedNet o → Each (IsChild k) (net_ids o) → busy_among (below_net names o) k ≡ false
  no_run_held k None b c = refl
  no_run_held k (Some x) b c = no_run_net k x.value b c

  -- ---- at a case or an item: its own site, what its net says, and what its run says
  own_apart : (k : Ident) (x : Site) (js : List Ident) → Each (IsChild k) js → Each (λ j. NoneUnder j ((k, x) ∷ [])) js
  own_apart k x [] c = tt
  own_apart k x (j ∷ js) c = ((child_strict k k j c.0 (under_refl k), tt), own_apart k x js c.1)

  module _ (k : Ident) (x : Site) (no_run : x.run ≡ None) (nets : Entries) (net_js : List Ident) (r : Option (Box Run Global)) (rb : Held IsBoxedRun r) (ru : Held URun r) (c : AreChildren k (net_js ++ run_ids r))
      (quiet : busy_among nets k ≡ false) (net_off : (j : Ident) → IsChild k j → AreChildren k (net_js ++ (j ∷ [])) → NoneUnder j nets)
      (net_says : Bool) (says : (pre post : Entries) → Each (λ j. NoneUnder j pre) net_js → Each (λ j. NoneUnder j post) net_js → list_any (urgent_entry (pre ++ (nets ++ post))) nets ≡ net_says) where
    abbrev own : Entry
    own = (k, x)

    abbrev all : Entries
    all = (k, x) ∷ (nets ++ below_run names r)

    busy_run : (o : Option (Box Run Global)) → Each (IsChild k) (run_ids o) → busy_among (below_run names o) k ≡ is_some o
    busy_run None d = refl
    busy_run (Some y) d =
        ap (λ es. busy_among es k) (run_entries_is names y.value)
        ∙ ap (λ z. z || busy_among (below_net names (out-Run y.value).net) k) (is_child_of (out-Run y.value).id k d.0)

    busy_here : busy_among ((k, x) ∷ (nets ++ below_run names r)) k ≡ is_some r
    busy_here =
        let p = λ (e : Entry). is_some e.1.run && is_child e.0 k in
        ap (λ z. (is_some z && is_child k k) || list_any p (nets ++ below_run names r)) no_run ∙ list_any-append p nets (below_run names r)
        ∙ (λ j. quiet j || busy_run r (Each-back (IsChild k) net_js (run_ids r) c.0) j)

    own_urgent : urgent_entry ((k, x) ∷ (nets ++ below_run names r)) (k, x) ≡ (any_due x.due && is_none r)
    own_urgent = (λ j. any_due x.due && not (busy_here j) || is_at_work (no_run j)) ∙ or_none (any_due x.due && is_none r)

    run_urgent : (o : Option (Box Run Global)) → Held IsBoxedRun o → Held URun o → AreChildren k (net_js ++ run_ids o) → list_any (urgent_entry ((k, x) ∷ (nets ++ below_run names o))) (below_run names o) ≡ urgent_hung o
    run_urgent None b u d = refl
    run_urgent (Some y) b u d =
        let j = (out-Run y.value).id in
        let cj = each_mid (IsChild k) net_js j [] d.0 in
        let es = run_entries names y.value in
        let none : Entries = [] in
        let whole : (k, x) ∷ (nets ++ es) ≡ ((k, x) ∷ nets) ++ (es ++ none) = ap (λ z. (k, x) ∷ (nets ++ z)) (sym (nil_right es)) in
        ap (λ z. list_any (urgent_entry z) es) whole
        ∙ urgent_alone j ((k, x) ∷ nets) es none (run_keys names y.value b) (child_strict k k j cj (under_refl k), net_off j cj d) tt
        ∙ u b

    pub host_urgent : list_any (urgent_entry ((k, x) ∷ (nets ++ below_run names r))) ((k, x) ∷ (nets ++ below_run names r)) ≡ (any_due x.due && is_none r || net_says || urgent_hung r)
    host_urgent =
        let p = urgent_entry ((k, x) ∷ (nets ++ below_run names r)) in
        let one : Entries = (k, x) ∷ [] in
        let net = says one (below_run names r) (own_apart k x net_js (Each-front (IsChild k) net_js (run_ids r) c.0)) (run_beside names k r net_js rb c).apart in
        ap (λ z. p (k, x) || z) (list_any-append p nets (below_run names r))
        ∙ (λ j. own_urgent j || (net j || run_urgent r rb ru c j))
        ∙ or_assoc (any_due x.due && is_none r) net_says (urgent_hung r)

  of_held : (i : Ident) (o : Option (Box NetState Global)) → Held UNet o → Held IsBoxedNet o → AreChildren i (net_ids o) → (pre post : Entries) → Each (λ j. NoneUnder j pre) (net_ids o) → Each (λ j. NoneUnder j post) (net_ids o)
      → list_any (urgent_entry (pre ++ (below_net names o ++ post))) (below_net names o) ≡ urgent_below o
  of_held i None u b c pre post before behind = refl
  of_held i (Some s) u b c pre post before behind = u i pre post b c before behind

  of_node : (n : Node) → Held UNet (out-Node n).net → Held URun (out-Node n).run → UNode n
  of_node n u ru b =
      let o = out-Node n in
      let down = below_every_node AtNet AtNode AtRun n b in
      let c : AreChildren o.id (net_ids o.net ++ run_ids o.run) = every_here-Node AtNet AtNode AtRun n b in
      let front = children_front o.id (net_ids o.net) (run_ids o.run) c in
      ap (λ es. list_any (urgent_entry es) es) (node_entries_is names n)
      ∙ host_urgent o.id (item_site names n) refl (below_net names o.net) (net_ids o.net) o.run down.1 ru c (no_run_held o.id o.net down.0 front.0) (held_off names o.id o.net down.0) (urgent_below o.net) (of_held o.id o.net u down.0 front)
      ∙ sym (urgent_node_is n)

  of_run : (r : Run) → Held UNet (out-Run r).net → URun r
  of_run r u b =
      let o = out-Run r in
      let none : Entries = [] in
      let one : Entries = (o.id, run_site names r) ∷ [] in
      let nets = below_net names o.net in
      let here : AreChildren o.id (net_ids o.net) = every_here-Run AtNet AtNode AtRun r b in
      ap (λ es. list_any (urgent_entry es) es) (run_entries_is names r)
      ∙ ap (λ z. not o.waiting || z) (ap (λ z. list_any (urgent_entry ((o.id, run_site names r) ∷ z)) nets) (sym (nil_right nets)) ∙ of_held o.id o.net u (below_every_run AtNet AtNode AtRun r b) here one none (own_apart o.id (run_site names r) (net_ids o.net) here.0) (nothing_behind (net_ids o.net)))
      ∙ sym (urgent_run_is r)
    where
      nothing_behind : (js : List Ident) → Each (λ j. NoneUnder j []) js
      nothing_behind [] = tt
      nothing_behind (j ∷ js) = (tt, nothing_behind js)

  pub net_urgent : (s : NetState) → UNet s
  net_urgent = each_net UNet UNode URun of_net of_node of_run

  pub run_urgent_is : (r : Run) → URun r
  run_urgent_is = each_run UNet UNode URun of_net of_node of_run

  held_runs : (o : Option (Box Run Global)) → Held URun o
  held_runs None = tt
  held_runs (Some y) = run_urgent_is y.value

  pub case_urgent : (c : Case) → IsBoxedCase c → list_any (urgent_entry (case_entries names c)) (case_entries names c) ≡ urgent_case c
  case_urgent c b =
      let front = children_front c.id (ids c.net) (run_ids c.run) b.here in
      host_urgent c.id (case_site names c) refl (net_entries names c.net).1 (ids c.net) c.run b.run (held_runs c.run) b.here (no_run_net c.id c.net b.net front.0) (net_off names c.id c.net b.net) (urgent_net c.net)
      (λ pre post before behind. net_urgent c.net c.id pre post b.net front before behind)
