-- The rows of a person at an identity. Our own.
use Rattle.std.specs.Prelude.{◌≡◌, ℕ, [], Bool, false, filter, List, map, MatchOption, Option, true, if◌then◌else◌}
use Rattle.yw_state.specs.Answers.{IsWorkList}
use Rattle.yw_state.specs.Identity.{Ident}
use Rattle.yw_state.specs.Map.{has_key}
use Rattle.yw_state.specs.State.{State}
use Rattle.yw_state.specs.declared.answer.WorkRow.{WorkRow}
use Rattle.yw_work.specs.Holds.{held_on}
use Rattle.yw_work.specs.Open.{admits}
use Rattle.yw_work.specs.declared.open.Open.{Open}
use Rattle.yw_worklist.specs.Lists.{is_marked, is_run, works_at}
use Rattle.yw_worklist.specs.declared.lists.Lists.{Lists}

abbrev pub row_of : Ident → Open → WorkRow
row_of j o = record { at = j; task = o.task; what = o.what }

-- those of these that are for a person of this name with these roles
abbrev pub admitted : List (List ℕ) → List ℕ → Ident → List Open → List WorkRow
admitted roles who j opens = map (row_of j) (filter (λ o. admits roles who o.by) opens)

abbrev pub is_held : Lists → Ident → Bool
is_held l j = held_on (is_marked l) (is_run l) false j

abbrev pub rows_at : Lists → List (List ℕ) → List ℕ → Ident → List WorkRow
rows_at l roles who j = if is_held l j then [] else admitted roles who j (works_at l j)

-- the person is known, and these are what the person may do, in order; or nobody has this name
abbrev pub IsToldWork : State → List ℕ → Option (List WorkRow) → Type 0
IsToldWork s who found = MatchOption found (has_key s.persons who ≡ false) (λ rows. (has_key s.persons who ≡ true) × IsWorkList s who rows)
