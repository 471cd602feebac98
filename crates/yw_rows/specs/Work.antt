-- What a person may do in the state that a row leads to.
use Rattle.std.specs.Prelude.{ℕ, List}
use Rattle.yw_rows.specs.Play.{Entry, Then}
use Rattle.yw_state.specs.Answers.{IsWork}
use Rattle.yw_state.specs.Identity.{Ident}
use Rattle.yw_state.specs.declared.answer.What.{What}

abbrev pub MayAt : List Entry → ℕ → List ℕ → Ident → List ℕ → What → Type 0
MayAt row k who at task what = Then row k (λ s. IsWork s who (record { at = at; task = task; what = what }))

abbrev pub MayNotAt : List Entry → ℕ → List ℕ → Ident → List ℕ → What → Type 0
MayNotAt row k who at task what = Then row k (λ s. IsWork s who (record { at = at; task = task; what = what }) → ⊥)
