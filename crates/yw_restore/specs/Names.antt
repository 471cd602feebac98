-- Names under their bytes, in order, and what stands under each.
use Rattle.std.specs.Prelude.{◌≡◌, ℕ, List, [], ◌∷◌, map, flat_map, Option, Some, None}
use Rattle.std.specs.Borrow.{Bor}
use Rattle.yw_library.specs.Holdings.{Holdings, state_of}
use Rattle.yw_state.proofs.Entries.{IsIn}
use Rattle.yw_state.specs.Map.{get}
use Rattle.yw_state.specs.declared.loaded.Loaded.{Loaded}
use Rattle.yw_states.specs.declared.kept.PersonRow.{PersonRow}

abbrev pub NameUnder : Type 0
NameUnder = Bor (List ℕ) × Bor (List ℕ)

-- the names, in the order of the entries
abbrev pub names_in : List NameUnder → List (List ℕ)
names_in es = map (λ (e : NameUnder). e.1.now) es

-- Each of these names under its bytes, and no other.
pub record AreNames (names : List (List ℕ)) (es : List NameUnder) : Type 0 where
  pub named : (e : NameUnder) → IsIn es e → e.0.now ≡ e.1.now
  pub each : (e : NameUnder) → IsIn es e → IsIn names e.1.now
  pub there : (name : List ℕ) → IsIn names name → IsIn (names_in es) name

-- ---- what stands under a name

abbrev pub row_if_person : List ℕ → Option (List (List ℕ)) → List PersonRow
row_if_person name None = []
row_if_person name (Some roles) = record { name = name; roles = roles } ∷ []

abbrev pub person_rows_at : Holdings → List (List ℕ) → List PersonRow
person_rows_at library names = flat_map (λ (name : List ℕ). row_if_person name (get (state_of library).persons name)) names

abbrev pub text_in : Loaded → List ℕ
text_in l = l.text

abbrev pub text_if_loaded : List ℕ → Option Loaded → List (List ℕ)
text_if_loaded name None = []
text_if_loaded name (Some l) = text_in l ∷ []

abbrev pub texts_at : Holdings → List (List ℕ) → List (List ℕ)
texts_at library names = flat_map (λ (name : List ℕ). text_if_loaded name (get (state_of library).specs name)) names
