-- What stands directly below the net at an identity: its items, and the run beside them.
use Rattle.std.proofs.Common.{List, Some, [], ap, cond, false, refl, subst, sym, true, ℕ, ◌++◌, ◌∙◌, ◌∷◌, ◌≡◌}
use Rattle.std.specs.FinMap.Entries.{find}
use Rattle.std.specs.Ordering.{eq_by_cmp}
use Rattle.std.specs.Prelude.{is_some}
use Rattle.yw_sites.proofs.Each.{Each-append}
use Rattle.yw_sites.proofs.Swaps.{at}
use Rattle.yw_sites.specs.Entries.{Entries}
use Rattle.yw_sites.specs.Idents.{Each}
use Rattle.yw_state.proofs.Tests.{by_test, never}
use Rattle.yw_state.specs.Identity.{Ident}
use Rattle.yw_state.specs.Map.{lexical}
use Rattle.yw_tree.proofs.Equations.{net_entries_is}
use Rattle.yw_tree.proofs.Keys.{ids_are, kids}
use Rattle.yw_tree.proofs.NetLaw.{at_own}
use Rattle.yw_tree.specs.Boxed.{ids}
use Rattle.yw_tree.specs.Entries.{flat, net_entries, node_entries, nodes}
use Rattle.yw_tree.specs.declared.NetState.{NetState}
use Rattle.yw_tree.specs.declared.Node.{Node, out-Node}

-- what is found in a list is found in a longer one
pub found_before : (q : Ident) (xs ys : Entries) → is_some (at q xs) ≡ true → is_some (at q (xs ++ ys)) ≡ true
found_before q [] ys h = never h
found_before q (e ∷ xs) ys h =
    by_test (eq_by_cmp lexical q e.0)
    (λ (t : eq_by_cmp lexical q e.0 ≡ true). ap (λ b. is_some (cond b (Some e.1) (at q (xs ++ ys)))) t)
    (λ (t : eq_by_cmp lexical q e.0 ≡ false).
    ap (λ b. is_some (cond b (Some e.1) (at q (xs ++ ys)))) t ∙ found_before q xs ys (ap (λ b. is_some (cond b (Some e.1) (at q xs))) (sym t) ∙ h))

pub found_behind : (q : Ident) (xs ys : Entries) → is_some (at q ys) ≡ true → is_some (at q (xs ++ ys)) ≡ true
found_behind q [] ys h = h
found_behind q (e ∷ xs) ys h =
    by_test (eq_by_cmp lexical q e.0)
    (λ (t : eq_by_cmp lexical q e.0 ≡ true). ap (λ b. is_some (cond b (Some e.1) (at q (xs ++ ys)))) t)
    (λ (t : eq_by_cmp lexical q e.0 ≡ false). ap (λ b. is_some (cond b (Some e.1) (at q (xs ++ ys)))) t ∙ found_behind q xs ys h)

pub each_map : {A : Type 0} (P Q : A → Type 0) → ((x : A) → P x → Q x) → (xs : List A) → Each P xs → Each Q xs
each_map P Q h [] p = tt
each_map P Q h (x ∷ xs) p = (h x p.0, each_map P Q h xs p.1)

-- of two facts of each, a third
pub each_with : {A : Type 0} (P Q R : A → Type 0) → ((x : A) → P x → Q x → R x) → (xs : List A) → Each P xs → Each Q xs → Each R xs
each_with P Q R h [] p q = tt
each_with P Q R h (x ∷ xs) p q = (h x p.0 q.0, each_with P Q R h xs p.1 q.1)

module _ (names : ℕ → List ℕ) where
  abbrev Known : Entries → Ident → Type 0
  Known es j = is_some (find lexical j es) ≡ true

  of_nodes : (ns : List Node) → Each (Known (flat (node_entries names) ns)) (kids ns)
  of_nodes [] = tt
  of_nodes (n ∷ ns) = (
    found_before (out-Node n).id (node_entries names n) (flat (node_entries names) ns) (ap is_some (at_own names (out-Node n).id n refl)),
    each_map (Known (flat (node_entries names) ns)) (Known (node_entries names n ++ flat (node_entries names) ns)) (λ j h. found_behind j (node_entries names n) (flat (node_entries names) ns) h) (kids ns) (of_nodes ns),
  )

  -- each item of a net is among its entries
  pub items_known : (s : NetState) → Each (λ j. is_some (find lexical j (net_entries names s).1) ≡ true) (ids s)
  items_known s =
      subst (λ z. Each (Known z) (ids s)) (sym (ap (λ z. z.1) (net_entries_is names s)))
      (subst (Each (Known (flat (node_entries names) (nodes s)))) (sym (ids_are s)) (of_nodes (nodes s)))

  -- each item, and what stands beside them
  pub all_known : (s : NetState) (beside : Entries) (js : List Ident) → Each (λ j. is_some (find lexical j beside) ≡ true) js → Each (λ j. is_some (find lexical j ((net_entries names s).1 ++ beside)) ≡ true) (ids s ++ js)
  all_known s beside js h =
      let es = (net_entries names s).1 in
      Each-append (Known (es ++ beside)) (ids s) js
      (each_map (Known es) (Known (es ++ beside)) (λ j k. found_before j es beside k) (ids s) (items_known s))
      (each_map (Known beside) (Known (es ++ beside)) (λ j k. found_behind j es beside k) js h)
