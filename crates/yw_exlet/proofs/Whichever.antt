-- A run takes its first primitive, whichever it is, and what is supposed of it.
use Rattle.std.proofs.Common.{ap, subst, sym, ◌∙◌}
use Rattle.std.specs.Prelude.{◌≡◌, Option, Some, true, ℕ}
use Rattle.yw_base.proofs.Parents.{identity_long}
use Rattle.yw_base.specs.Identity.{is_identity, parent, under}
use Rattle.yw_exlet.proofs.ByKind.{comes_of, whichever}
use Rattle.yw_exlet.specs.Needs.{ComesOf, DoesPrim, Takes, outcome_of}
use Rattle.yw_exlet.specs.Stands.{first_at}
use Rattle.yw_spec.specs.declared.spec.Net.{Net}
use Rattle.yw_spec.specs.declared.spec.Spec.{Spec}
use Rattle.yw_spec.specs.declared.task.Task.{Task}
use Rattle.yw_state.specs.Exlets.{case_above}
use Rattle.yw_state.specs.Identity.{Ident}
use Rattle.yw_state.specs.declared.part.Checks.{Checks}
use Rattle.yw_state.specs.declared.tree.Primitive.{Primitive}
use Rattle.yw_tree.proofs.ForestLaw.{in_case}
use Rattle.yw_tree.proofs.Shorter.{under_its_parent}
use Rattle.yw_tree.specs.declared.Forest.{Forest}

-- ---- what lies above it

pub under_target : (r j : Ident) → is_identity r ≡ true → j ≡ parent r → under r j ≡ true
under_target r j identity is = ap (under r) is ∙ under_its_parent r (identity_long r identity)

pub under_case : (r j : Ident) → is_identity r ≡ true → j ≡ case_above r → under r j ≡ true
under_case r j identity is = ap (under r) is ∙ in_case r (identity_long r identity)

-- ---- what it takes first

module _ (old : Forest) (r : Ident) (p q : Primitive) (first : Some q ≡ first_at old r) (is : q ≡ p) where
  pub it_is : first_at old r ≡ Some p
  it_is = sym first ∙ ap Some is

  pub it_comes : ComesOf old r (outcome_of p)
  it_comes = comes_of old r p it_is

  pub it_takes : (top : Net) (item : Option Task) (comp : Option (Spec × ℕ)) (due : Checks) (mid new : Forest) → new ≡ mid
      → DoesPrim top item comp due r p old mid
      → Takes top item comp due r old new
  it_takes top item comp due mid new same does = subst (Takes top item comp due r old) (sym same)
      (whichever top item comp due r old mid does.boxed p it_is does)
