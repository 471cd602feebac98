-- What is asked of all that stands in a map, asked of the entries of a forest in their own order.
use Rattle.std.proofs.Common.{Bool, List, None, Option, Some, [], ap, false, refl, subst, sym, ℕ, ◌++◌, ◌∙◌, ◌∷◌, ◌≡◌}
use Rattle.std.specs.FinMap.Entries.{below_all, is_sorted}
use Rattle.std.specs.List.{list_any}
use Rattle.std.specs.Ordering.{nat_cmp}
use Rattle.std.specs.Prelude.{Box, T}
use Rattle.std.specs.declared.alloc.Global.{Global}
use Rattle.yw_base.specs.Identity.{under}
use Rattle.yw_sites.proofs.Children.{children_front, strictly}
use Rattle.yw_sites.proofs.Each.{Each-append, Each-front, each_mid}
use Rattle.yw_sites.proofs.Picked.{halves}
use Rattle.yw_sites.proofs.Prefix.{other_child, under_refl}
use Rattle.yw_sites.proofs.Swaps.{at}
use Rattle.yw_sites.proofs.Unique.{apart_lists, not_above, some_is, unique_both}
use Rattle.yw_sites.specs.Entries.{Unique}
use Rattle.yw_sites.specs.Entries.{Entries, Entry, NoneUnder, AllUnder}
use Rattle.yw_sites.specs.Idents.{AreChildren, Each, IsChild}
use Rattle.yw_state.specs.Identity.{Ident, case_ident}
use Rattle.yw_state.specs.Map.{entries}
use Rattle.yw_state.specs.State.{Site, State, some_site}
use Rattle.yw_tree.proofs.Equations.{net_entries_is, node_entries_is, run_entries_is}
use Rattle.yw_tree.proofs.Induct.{below_every_net, below_every_node, below_every_run, each_net, each_node, each_run}
use Rattle.yw_tree.proofs.Keys.{case_keys, ids_are, kids, node_keys, run_keys}
use Rattle.yw_tree.proofs.Law.{list_apart}
use Rattle.yw_tree.proofs.Table.{all, cases_apart, others}
use Rattle.yw_tree.specs.Boxed.{AtNet, AtNode, AtRun, Held, IsBoxedCase, IsBoxedNet, IsBoxedNode, IsBoxedRun, IsNetAt, ids, net_ids, run_ids}
use Rattle.yw_tree.specs.Cases.{CaseList}
use Rattle.yw_tree.specs.Entries.{below_net, below_run, case_entries, flat, net_entries, node_entries, nodes, run_entries}
use Rattle.yw_tree.specs.Forest.{IsForest, entries as entries_of, sites_of}
use Rattle.yw_tree.specs.declared.Case.{Case}
use Rattle.yw_tree.specs.declared.Forest.{Forest}
use Rattle.yw_tree.specs.declared.NetState.{NetState}
use Rattle.yw_tree.specs.declared.Node.{Node, every_here-Node, out-Node}
use Rattle.yw_tree.specs.declared.Run.{Run, every_here-Run, out-Run}

module _ (names : ℕ → List ℕ) where
  abbrev ents : Node → Entries
  ents = node_entries names

  abbrev UNet : NetState → Type 0
  UNet s = (i : Ident) → IsBoxedNet s → IsNetAt i s → Unique (net_entries names s).1 × Each (λ (f : Entry). f.0 ≡ i → ⊥) (net_entries names s).1

  abbrev UNode : Node → Type 0
  UNode n = IsBoxedNode n → Unique (ents n)

  abbrev URun : Run → Type 0
  URun r = IsBoxedRun r → Unique (run_entries names r)

  off_rest : (i j : Ident) → IsChild i j → (ks : List Ident) → Each (IsChild i) ks → Each (λ k. j ≡ k → ⊥) ks → Each (λ k. under j k ≡ false) ks
  off_rest i j c [] d n = tt
  off_rest i j c (k ∷ ks) d n = (other_child j i j k c d.0 n.0 (under_refl j), off_rest i j c ks d.1 n.1)

  of_list : (i : Ident) (ns : List Node) → Each UNode ns → Each IsBoxedNode ns → AreChildren i (kids ns) → Unique (flat ents ns) × Each (λ (f : Entry). f.0 ≡ i → ⊥) (flat ents ns)
  of_list i [] u b c = (tt, tt)
  of_list i (n ∷ ns) u b c =
      let j = (out-Node n).id in
      let rest = of_list i ns u.1 b.1 (c.0.1, c.1.1) in
      let keys = node_keys names n b.0 in
      let apart = list_apart names j i (strictly j i j c.0.0 (under_refl j)) ns b.1 c.0.1 (off_rest i j c.0.0 (kids ns) c.0.1 c.1.0) in (
        unique_both (ents n) (flat ents ns) (u.0 b.0) rest.0 (apart_lists j (ents n) (flat ents ns) keys apart),
        Each-append (λ (f : Entry). f.0 ≡ i → ⊥) (ents n) (flat ents ns) (not_above i j c.0.0 (ents n) keys) rest.1,
      )

  of_net : (s : NetState) → Each UNode (nodes s) → UNet s
  of_net s u i b at =
      subst (λ z. Unique z × Each (λ (f : Entry). f.0 ≡ i → ⊥) z) (sym (ap (λ z. z.1) (net_entries_is names s)))
      (of_list i (nodes s) u (below_every_net AtNet AtNode AtRun s b) (subst (AreChildren i) (ids_are s) at))

  of_held : (i : Ident) (o : Option (Box NetState Global)) → Held UNet o → Held IsBoxedNet o → AreChildren i (net_ids o) → Unique (below_net names o) × Each (λ (f : Entry). f.0 ≡ i → ⊥) (below_net names o)
  of_held i None u b c = (tt, tt)
  of_held i (Some x) u b c = u i b c

  of_run : (r : Run) → Held UNet (out-Run r).net → URun r
  of_run r u b =
      let h = of_held (out-Run r).id (out-Run r).net u (below_every_run AtNet AtNode AtRun r b) (every_here-Run AtNet AtNode AtRun r b) in
      subst Unique (sym (run_entries_is names r)) (h.1, h.0)

  all_off : (i j : Ident) → IsChild i j → (js : List Ident) → AreChildren i (js ++ (j ∷ [])) → Each (λ k. under j k ≡ false) js
  all_off i j c [] a = tt
  all_off i j c (k ∷ js) a = (other_child j i j k c a.0.0 (λ e. each_mid (λ z. k ≡ z → ⊥) js j [] a.1.0 (sym e)) (under_refl j), all_off i j c js (a.0.1, a.1.1))

  pub net_off : (i : Ident) (s : NetState) → IsBoxedNet s → (j : Ident) → IsChild i j → AreChildren i (ids s ++ (j ∷ [])) → NoneUnder j (net_entries names s).1
  net_off i s b j cj a =
      let off = all_off i j cj (ids s) a in
      let ch = Each-front (IsChild i) (ids s) (j ∷ []) a.0 in
      subst (NoneUnder j) (sym (ap (λ z. z.1) (net_entries_is names s)))
      (list_apart names j i (strictly j i j cj (under_refl j)) (nodes s) (below_every_net AtNet AtNode AtRun s b) (subst (Each (IsChild i)) (ids_are s) ch) (subst (Each (λ k. under j k ≡ false)) (ids_are s) off))

  pub held_off : (i : Ident) (o : Option (Box NetState Global)) → Held IsBoxedNet o → (j : Ident) → IsChild i j → AreChildren i (net_ids o ++ (j ∷ [])) → NoneUnder j (below_net names o)
  held_off i None b j cj a = tt
  held_off i (Some x) b j cj a = net_off i x.value b j cj a

  -- a run beside other entries
  beside : (i : Ident) (es : Entries) (js : List Ident) (r : Option (Box Run Global)) → ((j : Ident) → IsChild i j → AreChildren i (js ++ (j ∷ [])) → NoneUnder j es) → Held IsBoxedRun r → Held URun r → AreChildren i (js ++ run_ids r) → Unique es
      → Each (λ (f : Entry). f.0 ≡ i → ⊥) es → Unique (es ++ below_run names r) × Each (λ (f : Entry). f.0 ≡ i → ⊥) (es ++ below_run names r)
  beside i es js None apart rb ru c u h = (subst Unique (sym (nil es)) u, subst (Each (λ (f : Entry). f.0 ≡ i → ⊥)) (sym (nil es)) h)
    where
      nil : (xs : Entries) → xs ++ [] ≡ xs
      nil [] = refl
      nil (x ∷ xs) = ap (λ r. x ∷ r) (nil xs)
  beside i es js (Some y) apart rb ru c u h =
      let j = (out-Run y.value).id in
      let cj = each_mid (IsChild i) js j [] c.0 in
      let keys = run_keys names y.value rb in (
        unique_both es (run_entries names y.value) u (ru rb) (turned es (run_entries names y.value) (apart_lists j (run_entries names y.value) es keys (apart j cj c))),
        Each-append (λ (f : Entry). f.0 ≡ i → ⊥) es (run_entries names y.value) h (not_above i j cj (run_entries names y.value) keys),
      )
    where
      none_of : (xs : Entries) → Each (λ (x : Entry). Each (λ (y : Entry). y.0 ≡ x.0 → ⊥) []) xs
      none_of [] = tt
      none_of (x ∷ xs) = (tt, none_of xs)

      add : (y : Entry) (xs ys : Entries) → Each (λ (x : Entry). x.0 ≡ y.0 → ⊥) xs → Each (λ (x : Entry). Each (λ (z : Entry). z.0 ≡ x.0 → ⊥) ys) xs → Each (λ (x : Entry). Each (λ (z : Entry). z.0 ≡ x.0 → ⊥) (y ∷ ys)) xs
      add y [] ys h r = tt
      add y (x ∷ xs) ys h r = (((λ e. h.0 (sym e)), r.0), add y xs ys h.1 r.1)

      turned : (xs ys : Entries) → Each (λ (y : Entry). Each (λ (x : Entry). x.0 ≡ y.0 → ⊥) xs) ys → Each (λ (x : Entry). Each (λ (y : Entry). y.0 ≡ x.0 → ⊥) ys) xs
      turned xs [] h = none_of xs
      turned xs (y ∷ ys) h = add y xs ys h.0 (turned xs ys h.1)

  of_node : (n : Node) → Held UNet (out-Node n).net → Held URun (out-Node n).run → UNode n
  of_node n u ru b =
      let o = out-Node n in
      let down = below_every_node AtNet AtNode AtRun n b in
      let c : AreChildren o.id (net_ids o.net ++ run_ids o.run) = every_here-Node AtNet AtNode AtRun n b in
      let h = of_held o.id o.net u down.0 (children_front o.id (net_ids o.net) (run_ids o.run) c) in
      let both = beside o.id (below_net names o.net) (net_ids o.net) o.run (held_off o.id o.net down.0) down.1 ru c h.0 h.1 in
      subst Unique (sym (node_entries_is names n)) (both.1, both.0)

  pub unique_net : (s : NetState) → UNet s
  unique_net = each_net UNet UNode URun of_net of_node of_run

  pub unique_node : (n : Node) → UNode n
  unique_node = each_node UNet UNode URun of_net of_node of_run

  pub unique_run : (r : Run) → URun r
  unique_run = each_run UNet UNode URun of_net of_node of_run

  held_unique : (r : Option (Box Run Global)) → Held URun r
  held_unique None = tt
  held_unique (Some y) = unique_run y.value

  unique_case : (c : Case) → IsBoxedCase c → Unique (case_entries names c)
  unique_case c b =
      let h = unique_net c.net c.id b.net (children_front c.id (ids c.net) (run_ids c.run) b.here) in
      let both = beside c.id (net_entries names c.net).1 (ids c.net) c.run (net_off c.id c.net b.net) b.run (held_unique c.run) b.here h.0 h.1 in
      (both.1, both.0)

  abbrev Well : ℕ × Case → Type 0
  Well e = (e.1.id ≡ case_ident e.0) × IsBoxedCase e.1

  unique_cases : (cs : CaseList) → T (is_sorted nat_cmp cs) → Each Well cs → Unique (all names cs)
  unique_cases [] h b = tt
  unique_cases (c ∷ cs) h b =
      let none : CaseList = [] in
      let o = others none c cs h in
      unique_both (case_entries names c.1) (all names cs) (unique_case c.1 b.0.1) (unique_cases cs (halves (below_all nat_cmp c.0 cs) (is_sorted nat_cmp cs) h).1 b.1)
      (apart_lists (case_ident c.0) (case_entries names c.1) (all names cs) (subst (λ z. AllUnder z (case_entries names c.1)) b.0.0 (case_keys names c.1 b.0.1)) (cases_apart names (case_ident c.0) c.0 (under_refl (case_ident c.0)) cs b.1 o.1))

  pub unique_forest : (f : Forest) → IsForest f → Unique (entries_of names f)
  unique_forest f b = unique_cases f.cases b.0 b.1

  -- what the definitions ask of all that stands is asked of the entries in their own order
  pub some_site_is : (s : State) (f : Forest) (p : Ident → Site → Bool) → IsForest f → s.sites ≡ sites_of names f → some_site s p ≡ list_any (λ e. p e.0 e.1) (entries_of names f)
  some_site_is s f p b is = ap (λ m. list_any (λ e. p e.0 e.1) (entries m)) is ∙ some_is (λ e. p e.0 e.1) (entries_of names f) (unique_forest f b)
