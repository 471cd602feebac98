-- How the fault of a condition is answered.
use Rattle.std.specs.Prelude.{◌≡◌, ℕ, List, Result, Ok, Err}
use Rattle.std.specs.declared.alloc.AllocError.{AllocError}
use Rattle.yw_expr.specs.declared.fault.ExprFault.{ExprFault}
use Rattle.yw_expr.specs.declared.fault.ExprFault.TheVariants as exprs
use Rattle.yw_expr.specs.declared.scope.Binding.{Binding}
use Rattle.yw_library.specs.declared.fault.LibraryFault.{LibraryFault}
use Rattle.yw_library.specs.declared.fault.LibraryFault.TheVariants as faults
use Rattle.yw_texts.specs.Texts.{ReadsCondition, fault_text}
use Rattle.yw_state.specs.Broken.{placed}
use Rattle.yw_state.specs.declared.rule.Refusal.{Refusal}
use Rattle.yw_state.specs.declared.rule.Rule.TheVariants.{BadExpr}

-- this is said of the fault; of want of memory nothing is
abbrev pub IsSaid : ExprFault → List ℕ → Type 0
IsSaid exprs.Memory text = ⊥
IsSaid fault text = text ≡ fault_text fault

-- the text spells no condition over these names, and this is said of it
pub record Misspells (text : List ℕ) (scope : List Binding) (refusal : Refusal) : Type 0 where
  pub at : List ℕ
  pub said : refusal ≡ placed BadExpr at
  pub misspelt : ReadsCondition text scope (Err at)

abbrev pub IsFault : Result (List ℕ) AllocError → LibraryFault → Type 0
IsFault (Ok at) fault = fault ≡ faults.Refused (placed BadExpr at)
IsFault (Err e) fault = fault ≡ faults.Memory
