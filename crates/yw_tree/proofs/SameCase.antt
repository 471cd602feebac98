-- What is put back into a case as it was.
use Rattle.std.proofs.Common.{Bool, None, Option, Some, [], ap, cond, false, refl, sym, true, ℕ, ◌∙◌, ◌∷◌, ◌≡◌}
use Rattle.std.specs.BTreeMap.{is_at}
use Rattle.std.specs.Ordering.{nat_cmp}
use Rattle.std.specs.Prelude.{Box, IfSome}
use Rattle.std.specs.declared.alloc.Global.{Global}
use Rattle.yw_state.proofs.Tests.{by_test, never, some_same}
use Rattle.yw_state.specs.Identity.{Ident}
use Rattle.yw_tree.proofs.Same.{same_run}
use Rattle.yw_tree.specs.Cases.{CaseList, case_at, with_case}
use Rattle.yw_tree.specs.Ways.{case_inner, net_in, net_in_run, run_leads, run_with_net, with_case_inner, with_net_in_run, with_run}
use Rattle.yw_tree.specs.declared.Case.{Case}
use Rattle.yw_tree.specs.declared.NetState.{NetState}
use Rattle.yw_tree.specs.declared.Run.{Run, out-Run}

run_lent : (id : Ident) (o : Option (Box Run Global)) (y : Run) → run_leads id o ≡ true → IfSome o (λ b. y ≡ b.value)
    → ((z : NetState) → with_run o (with_net_in_run y z) ≡ run_with_net o z) × (with_run o y ≡ o) × (net_in (out-Run y).net ≡ net_in_run o)
run_lent id None y l h = never l
run_lent id (Some b) y l h = (
  λ z. ap (λ (r : Run). Some (record { ptr = b.ptr; alloc = b.alloc; value = with_net_in_run r z })) h,
  ap (λ (r : Run). Some (record { ptr = b.ptr; alloc = b.alloc; value = r })) h,
  ap (λ (r : Run). net_in (out-Run r).net) h,
)

module _ (id : Ident) (c : Case) where
  abbrev either_case : NetState → Bool → Case
  either_case z u = cond u (record c { run = run_with_net c.run z }) (record c { net = z })

  module _ (y : Run) (l : run_leads id c.run ≡ true) (h : IfSome c.run (λ b. y ≡ b.value)) where
    pub case_put : (z : NetState) → ◌≡◌ {A = Case} (record c { run = with_run c.run (with_net_in_run y z) }) (with_case_inner id c z)
    case_put z = (λ j. record c { run = (run_lent id c.run y l h).0 z j }) ∙ ap (either_case z) (sym l)

    pub case_kept : ◌≡◌ {A = Case} (record c { run = with_run c.run y }) c
    case_kept = (λ j. record c { run = (run_lent id c.run y l h).1 j })

    pub case_seen : net_in (out-Run y).net ≡ case_inner id c
    case_seen = (run_lent id c.run y l h).2 ∙ ap (λ (u : Bool). cond u (net_in_run c.run) (Some c.net)) (sym l)

  pub same_case : (s : NetState) → case_inner id c ≡ Some s → with_case_inner id c s ≡ c
  same_case s e =
      by_test (run_leads id c.run)
      (λ (l : run_leads id c.run ≡ true).
      let f : net_in_run c.run ≡ Some s = ap (λ (u : Bool). cond u (net_in_run c.run) (Some c.net)) (sym l) ∙ e in
      ap (either_case s) l ∙ (λ j. record c { run = same_run c.run s f j }))
      (λ (l : run_leads id c.run ≡ false).
      let f : c.net ≡ s = some_same c.net s (ap (λ (u : Bool). cond u (net_in_run c.run) (Some c.net)) (sym l) ∙ e) in
      ap (either_case s) l ∙ (λ j. record c { net = sym f j }))

pub same_table : (n : ℕ) (cs : CaseList) (c : Case) → case_at n cs ≡ Some c → with_case n cs c ≡ cs
same_table n [] c e = refl
same_table n (x ∷ cs) c e =
    by_test (is_at (nat_cmp n) x.0)
    (λ (t : is_at (nat_cmp n) x.0 ≡ true).
    let v : x.1 ≡ c = some_same x.1 c (ap (λ (b : Bool). cond b (Some x.1) (case_at n cs)) (sym t) ∙ e) in
    ap (λ (b : Bool). cond b ((x.0, c) ∷ cs) (x ∷ with_case n cs c)) t ∙ ap (λ z. (x.0, z) ∷ cs) (sym v))
    (λ (t : is_at (nat_cmp n) x.0 ≡ false).
    ap (λ (b : Bool). cond b ((x.0, c) ∷ cs) (x ∷ with_case n cs c)) t ∙ ap (λ z. x ∷ z) (same_table n cs c (ap (λ (b : Bool). cond b (Some x.1) (case_at n cs)) (sym t) ∙ e)))
