-- What stands in boxes is the same by other names of specifications, where each that a net there has is the same.
use Rattle.std.proofs.Common.{List, None, Option, Some, [], ap, refl, subst, sym, ℕ, ◌++◌, ◌∙◌, ◌∷◌, ◌≡◌}
use Rattle.std.specs.Prelude.{Box}
use Rattle.std.specs.declared.alloc.Global.{Global}
use Rattle.yw_sites.proofs.Each.{Each-back, Each-front}
use Rattle.yw_sites.specs.Entries.{Entry}
use Rattle.yw_sites.specs.Idents.{Each}
use Rattle.yw_state.specs.State.{NetPart, sites_of_entries}
use Rattle.yw_tree.proofs.Equations.{net_entries_is, node_entries_is, run_entries_is}
use Rattle.yw_tree.proofs.Induct.{each_net, each_run}
use Rattle.yw_tree.specs.Boxed.{Held}
use Rattle.yw_tree.specs.Cases.{CaseList}
use Rattle.yw_tree.specs.Entries.{below_net, below_run, case_entries, case_site, flat, item_site, net_entries, net_part, net_part_of, node_entries, nodes, run_entries, run_site}
use Rattle.yw_tree.specs.Forest.{entries, sites_of}
use Rattle.yw_tree.specs.declared.Case.{Case}
use Rattle.yw_tree.specs.declared.Forest.{Forest}
use Rattle.yw_tree.specs.declared.NetState.{NetState, out-NetState}
use Rattle.yw_tree.specs.declared.Node.{Node, out-Node}
use Rattle.yw_tree.specs.declared.Run.{Run, out-Run}

-- the net, if there is one, is of a specification with a name
abbrev pub HasName : Option NetPart → Type 0
HasName None = Unit {0}
HasName (Some p) = p.spec ≡ [] → ⊥

abbrev pub EntryHasName : Entry → Type 0
EntryHasName e = HasName e.1.net

module _ (old new : ℕ → List ℕ) (agree : (k : ℕ) → (old k ≡ [] → ⊥) → old k ≡ new k) where
  -- ---- each part
  abbrev SameNet : NetState → Type 0
  SameNet s = (old (out-NetState s).spec ≡ [] → ⊥) → Each EntryHasName (net_entries old s).1
      → (net_part old s ≡ net_part new s) × ((net_entries old s).1 ≡ (net_entries new s).1)

  abbrev SameNode : Node → Type 0
  SameNode n = Each EntryHasName (node_entries old n) → node_entries old n ≡ node_entries new n

  abbrev SameRun : Run → Type 0
  SameRun r = Each EntryHasName (run_entries old r) → run_entries old r ≡ run_entries new r

  of_list : (xs : List Node) → Each SameNode xs → Each EntryHasName (flat (node_entries old) xs) → flat (node_entries old) xs ≡ flat (node_entries new) xs
  of_list [] p h = refl
  of_list (x ∷ xs) p h =
      let first = p.0 (Each-front EntryHasName (node_entries old x) (flat (node_entries old) xs) h) in
      let rest = of_list xs p.1 (Each-back EntryHasName (node_entries old x) (flat (node_entries old) xs) h) in
      λ j. first j ++ rest j

  of_part : (s : NetState) → (old (out-NetState s).spec ≡ [] → ⊥) → net_part old s ≡ net_part new s
  of_part s named =
      let l = out-NetState s in
      ap (λ (name : List ℕ). let p : NetPart = record { spec = name; net = l.net; vals = l.vals; tokens = l.marks } in p) (agree l.spec named)

  of_net : (s : NetState) → Each SameNode (nodes s) → SameNet s
  of_net s p named h =
      let below = of_list (nodes s) p (subst (Each EntryHasName) (ap (λ z. z.1) (net_entries_is old s)) h) in (
        of_part s named,
        ap (λ z. z.1) (net_entries_is old s) ∙ below ∙ sym (ap (λ z. z.1) (net_entries_is new s)),
      )

  of_held : (o : Option (Box NetState Global)) → Held SameNet o → HasName (net_part_of old o) → Each EntryHasName (below_net old o)
      → (net_part_of old o ≡ net_part_of new o) × (below_net old o ≡ below_net new o)
  of_held None p named h = (refl, refl)
  of_held (Some b) p named h = let both = p named h in (ap Some both.0, both.1)

  of_hung : (o : Option (Box Run Global)) → Held SameRun o → Each EntryHasName (below_run old o) → below_run old o ≡ below_run new o
  of_hung None p h = refl
  of_hung (Some b) p h = p h

  of_node : (n : Node) → Held SameNet (out-Node n).net → Held SameRun (out-Node n).run → SameNode n
  of_node n p q h =
      let l = out-Node n in
      let all : Each EntryHasName ((l.id, item_site old n) ∷ (below_net old l.net ++ below_run old l.run)) = subst (Each EntryHasName) (node_entries_is old n) h in
      let net = of_held l.net p all.0 (Each-front EntryHasName (below_net old l.net) (below_run old l.run) all.1) in
      let run = of_hung l.run q (Each-back EntryHasName (below_net old l.net) (below_run old l.run) all.1) in
      node_entries_is old n ∙ (λ j. (l.id, record (item_site old n) { net = net.0 j }) ∷ (net.1 j ++ run j)) ∙ sym (node_entries_is new n)

  of_run : (r : Run) → Held SameNet (out-Run r).net → SameRun r
  of_run r p h =
      let l = out-Run r in
      let all : Each EntryHasName ((l.id, run_site old r) ∷ below_net old l.net) = subst (Each EntryHasName) (run_entries_is old r) h in
      let net = of_held l.net p all.0 all.1 in
      run_entries_is old r ∙ (λ j. (l.id, record (run_site old r) { net = net.0 j }) ∷ net.1 j) ∙ sym (run_entries_is new r)

  same_net : (s : NetState) → SameNet s
  same_net = each_net SameNet SameNode SameRun of_net of_node of_run

  same_run : (r : Run) → SameRun r
  same_run = each_run SameNet SameNode SameRun of_net of_node of_run

  all_hung : (o : Option (Box Run Global)) → Held SameRun o
  all_hung None = tt
  all_hung (Some b) = same_run b.value

  -- ---- all cases
  of_case : (c : Case) → Each EntryHasName (case_entries old c) → case_entries old c ≡ case_entries new c
  of_case c h =
      let net = same_net c.net h.0 (Each-front EntryHasName (net_entries old c.net).1 (below_run old c.run) h.1) in
      let run = of_hung c.run (all_hung c.run) (Each-back EntryHasName (net_entries old c.net).1 (below_run old c.run) h.1) in
      λ j. (c.id, record (case_site old c) { net = Some (net.0 j) }) ∷ (net.1 j ++ run j)

  of_cases : (cs : CaseList) → Each EntryHasName (flat (λ e. case_entries old e.1) cs) → flat (λ e. case_entries old e.1) cs ≡ flat (λ e. case_entries new e.1) cs
  of_cases [] h = refl
  of_cases (c ∷ cs) h =
      let first = of_case c.1 (Each-front EntryHasName (case_entries old c.1) (flat (λ e. case_entries old e.1) cs) h) in
      let rest = of_cases cs (Each-back EntryHasName (case_entries old c.1) (flat (λ e. case_entries old e.1) cs) h) in
      λ j. first j ++ rest j

  -- the map is the same
  pub same_sites : (f : Forest) → Each EntryHasName (entries old f) → sites_of old f ≡ sites_of new f
  same_sites f h = ap sites_of_entries (of_cases f.cases h)
