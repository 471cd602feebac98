-- The check of a case after its end: what the map is once it is due.
use Rattle.std.proofs.Common.{Bool, List, Option, Some, [], ap, refl, subst, sym, ℕ, ◌∙◌, ◌≡◌}
use Rattle.yw_state.specs.After.{due_where}
use Rattle.yw_state.specs.Identity.{case_ident}
use Rattle.yw_state.specs.Map.{update}
use Rattle.yw_state.specs.State.{Site}
use Rattle.yw_state.specs.declared.tree.TreeKind.TheVariants.{Post}
use Rattle.yw_steps.specs.Exits.{case_with_post, over_case, with_post}
use Rattle.yw_tree.proofs.CaseLaw.{case_own, its, placing}
use Rattle.yw_tree.specs.Boxed.{IsBoxedCase}
use Rattle.yw_tree.specs.Cases.{case_at}
use Rattle.yw_tree.specs.Forest.{IsForest, sites_of}
use Rattle.yw_tree.specs.declared.Case.{Case}
use Rattle.yw_tree.specs.declared.Forest.{Forest}

-- the check is due, if this says so
abbrev pub judged_after : Bool → Site → Site
judged_after due_post x = record x { due = due_where due_post Post x.due }

module _ (g : Forest) (boxed : IsForest g) (n : ℕ) (c : Case) (at : case_at n g.cases ≡ Some c) (due_post : Bool) where
  well : IsBoxedCase (with_post due_post c)
  well = let b = (its (λ k. []) g boxed n c at).1 in record { here = b.here; net = b.net; run = b.run }

  pub post_map : (names : ℕ → List ℕ) → sites_of names (case_with_post g n due_post) ≡ update (sites_of names g) (case_ident n) (judged_after due_post)
  post_map names =
      ap (λ (o : Option Case). sites_of names (over_case g n due_post o)) at
      ∙ case_own names g boxed n c at (with_post due_post c) refl well (judged_after due_post) refl refl

  pub post_kept : IsForest (case_with_post g n due_post)
  post_kept = subst (λ (o : Option Case). IsForest (over_case g n due_post o)) (sym at) (placing (λ k. []) g boxed n c at (with_post due_post c) refl well).1
