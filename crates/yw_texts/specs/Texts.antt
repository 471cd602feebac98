-- How texts are read here: which are specifications, and which spell conditions. By this the definitions of events speak of texts. The
-- kinds of faults and their order are our own.
use Rattle.std.specs.Prelude.{◌≡◌, ◌⊎◌, ℕ, List, ◌++◌, Some, None, Result, Ok, Err, codes}
use Rattle.std.specs.Fmt.{decimal}
use Rattle.yw_base.specs.declared.value.Sort.TheVariants as sorts
use Rattle.yw_expr.specs.Parsing.{Means}
use Rattle.yw_expr.specs.Sorts.{tree_sort}
use Rattle.yw_expr.specs.Tree.{Tree}
use Rattle.yw_expr.specs.declared.fault.ExprFault.{ExprFault}
use Rattle.yw_expr.specs.declared.fault.ExprFault.TheVariants as faults
use Rattle.yw_expr.specs.declared.scope.Binding.{Binding}
use Rattle.yw_spec.specs.declared.spec.Spec.{Spec}
use Rattle.yw_read.specs.declared.raw.RawSpec.{RawSpec}
use Rattle.yw_accept.specs.Built.{IsSpec}
use Rattle.yw_accept.specs.Verdict.{IsVerdict}
use Rattle.yw_state.specs.Texts.{Reader}
use Rattle.yw_state.specs.declared.rule.Refusal.{Refusal}
use Rattle.yw_texts.specs.Accepted.{document_in, IsJudged}

-- ---- specifications

-- The text is accepted, and says this specification.
pub record IsAccepted (text : List ℕ) (spec : Spec) : Type 0 where
  pub raw : RawSpec
  pub says : document_in text ≡ Ok raw
  pub accepted : IsVerdict raw None
  pub is_spec : IsSpec raw spec

-- this is the first that is wrong with the text
abbrev pub IsUnfit : List ℕ → Refusal → Type 0
IsUnfit text refusal = IsJudged text (Some refusal)

abbrev pub ReadsSpec : List ℕ → Result Spec Refusal → Type 0
ReadsSpec text (Ok spec) = IsAccepted text spec
ReadsSpec text (Err refusal) = IsUnfit text refusal

-- ---- conditions

abbrev at_byte : List ℕ → ℕ → List ℕ
at_byte name at = name ++ codes " " ++ decimal at

-- the fault's name and its place; that there are too many tokens or brackets has none
abbrev pub fault_text : ExprFault → List ℕ
fault_text (faults.Lex at) = at_byte (codes "Lex") at
fault_text faults.Deep = codes "Deep"
fault_text (faults.Syntax at) = at_byte (codes "Syntax") at
fault_text (faults.UnknownName at) = at_byte (codes "UnknownName") at
fault_text (faults.Types at) = at_byte (codes "Types") at
fault_text faults.Memory = codes "Memory"

-- the text spells an expression that is neither true nor false
pub record IsNoCondition (text : List ℕ) (scope : List Binding) (at : List ℕ) : Type 0 where
  pub test : Tree
  pub means : Means text scope (Ok test)
  pub other : tree_sort test ≡ Some sorts.Bool → ⊥
  pub place : at ≡ codes "Types 0"

-- the text spells no expression
pub record IsMisspelt (text : List ℕ) (scope : List Binding) (at : List ℕ) : Type 0 where
  pub fault : ExprFault
  pub means : Means text scope (Err fault)
  pub place : at ≡ fault_text fault

abbrev pub ReadsCondition : List ℕ → List Binding → Result Tree (List ℕ) → Type 0
ReadsCondition text scope (Ok test) = Means text scope (Ok test) × (tree_sort test ≡ Some sorts.Bool)
ReadsCondition text scope (Err at) = IsMisspelt text scope at ⊎ IsNoCondition text scope at

-- ---- both

abbrev pub reader : Reader
reader = record { spec = ReadsSpec; condition = ReadsCondition }
