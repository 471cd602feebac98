-- A run stands beside the items of a net.
use Rattle.std.proofs.Common.{List, None, Option, Some, [], ap, cond, false, sym, true, ℕ, ◌++◌, ◌∙◌, ◌∷◌, ◌≡◌}
use Rattle.std.specs.FinMap.Entries.{find}
use Rattle.std.specs.Ordering.{eq_by_cmp}
use Rattle.std.specs.Prelude.{Box, is_some}
use Rattle.std.specs.declared.alloc.Global.{Global}
use Rattle.yw_base.specs.Identity.{under}
use Rattle.yw_sites.proofs.Children.{strictly}
use Rattle.yw_sites.proofs.Each.{each_mid}
use Rattle.yw_sites.proofs.Prefix.{child_length, child_of, not_true, other_child, under_refl, under_same}
use Rattle.yw_sites.proofs.Swaps.{at_under, keys_apart}
use Rattle.yw_sites.specs.Entries.{NoneUnder}
use Rattle.yw_sites.specs.Idents.{AreChildren, Each, IsChild}
use Rattle.yw_state.proofs.MapLemmas.{by_name, tied_self}
use Rattle.yw_state.proofs.Tests.{by_test, never, nowhere, some_same}
use Rattle.yw_state.specs.Identity.{Ident, is_child}
use Rattle.yw_state.specs.Map.{lexical}
use Rattle.yw_state.specs.State.{Site}
use Rattle.yw_tree.proofs.Equations.{run_entries_is}
use Rattle.yw_tree.proofs.Keys.{run_keys}
use Rattle.yw_tree.specs.Boxed.{Held, IsBoxedRun, run_ids}
use Rattle.yw_tree.specs.Entries.{below_net, below_run, run_entries, run_site}
use Rattle.yw_tree.specs.Shows.{StandsBeside}
use Rattle.yw_tree.specs.declared.Run.{Run, out-Run}

module _ (names : ℕ → List ℕ) (i : Ident) where
  pub none_beside : (js : List Ident) → Each (λ j. NoneUnder j []) js
  none_beside [] = tt
  none_beside (j ∷ js) = (tt, none_beside js)

  run_apart : (r : Run) → IsBoxedRun r → (js : List Ident) → AreChildren i (js ++ ((out-Run r).id ∷ [])) → Each (λ j. NoneUnder j (run_entries names r)) js
  run_apart r b [] c = tt
  run_apart r b (j ∷ js) c =
      let cr = each_mid (IsChild i) js (out-Run r).id [] c.0.1 in
      let ne = each_mid (λ k. j ≡ k → ⊥) js (out-Run r).id [] c.1.0 in (
        keys_apart j i (out-Run r).id cr (strictly j i j c.0.0 (under_refl j)) (other_child j i j (out-Run r).id c.0.0 cr ne (under_refl j)) (run_entries names r) (run_keys names r b),
        run_apart r b js (c.0.1, c.1.1),
      )

  run_quiet : (r : Run) → IsBoxedRun r → IsChild i (out-Run r).id → (q : Ident) (x : Site) → is_child q i ≡ true → find lexical q (run_entries names r) ≡ Some x → x.item ≡ None
  run_quiet r b cr q x c e =
      by_test (eq_by_cmp lexical q (out-Run r).id)
      (λ (t : eq_by_cmp lexical q (out-Run r).id ≡ true).
      let s : run_site names r ≡ x = some_same (run_site names r) x (sym (ap (find lexical q) (run_entries_is names r) ∙ ap (λ z. cond z (Some (run_site names r)) (find lexical q (below_net names (out-Run r).net))) t) ∙ e) in
      ap (λ (z : Site). z.item) (sym s))
      (λ (t : eq_by_cmp lexical q (out-Run r).id ≡ false).
      let off : under q (out-Run r).id ≡ false = not_true _ (λ u.
      let qc = child_of q i c in
      let s : q ≡ (out-Run r).id = under_same q q (out-Run r).id (child_length i q qc ∙ sym (child_length i (out-Run r).id cr)) (under_refl q) u in
      never (sym t ∙ ap (λ z. eq_by_cmp lexical z (out-Run r).id) s ∙ tied_self by_name (out-Run r).id)) in
      nowhere (sym (at_under q (out-Run r).id (run_entries names r) (run_keys names r b) off) ∙ e))

  -- the run is among what stands there
  pub run_known : (r : Option (Box Run Global)) → Each (λ j. is_some (find lexical j (below_run names r)) ≡ true) (run_ids r)
  run_known None = tt
  run_known (Some y) =
      let j = (out-Run y.value).id in (
        ap (λ z. is_some (find lexical j z)) (run_entries_is names y.value)
            ∙ ap (λ z. is_some (cond z (Some (run_site names y.value)) (find lexical j (below_net names (out-Run y.value).net)))) (tied_self by_name j),
        tt,
      )

  pub run_beside : (r : Option (Box Run Global)) (js : List Ident) → Held IsBoxedRun r → AreChildren i (js ++ run_ids r) → StandsBeside i js (below_run names r)
  run_beside None js b c = record { quiet = λ q x d e. nowhere e; apart = none_beside js }
  run_beside (Some y) js b c = record { quiet = run_quiet y.value b (each_mid (IsChild i) js (out-Run y.value).id [] c.0); apart = run_apart y.value b js c }
