-- What is gathered of a state's entries.
use Rattle.std.specs.Prelude.{◌≡◌, ◌≤◌, ◌<◌, ◌==◌, ◌++◌, ℕ, Bool, List, [], ◌∷◌, map, flat_map, Option, Some, None, if◌then◌else◌}
use Rattle.std.specs.Ordering.{nat_cmp}
use Rattle.yw_restore.specs.Lines.{ident_of_mark, row_of_due, row_of_item, row_of_net, row_of_run, row_of_token}
use Rattle.yw_restore.specs.declared.lines.CaseLines.{CaseLines}
use Rattle.yw_sites.proofs.Picked.{picked}
use Rattle.yw_sites.specs.Entries.{Entry}
use Rattle.yw_spec.specs.declared.spec.Place.{Place}
use Rattle.yw_state.specs.Identity.{Ident}
use Rattle.yw_state.specs.Map.{Map, get}
use Rattle.yw_state.specs.State.{State}
use Rattle.yw_state.specs.declared.part.Way.{Way}
use Rattle.yw_states.specs.States.{due_of_site, due_row, ended_row, item_of_site, item_row, mark_of_site, net_of_site, net_row, run_of_site, run_row, token_rows}
use Rattle.yw_states.specs.declared.cases.DueRow.{DueRow}
use Rattle.yw_states.specs.declared.cases.EndedRow.{EndedRow}
use Rattle.yw_states.specs.declared.cases.ItemRow.{ItemRow}
use Rattle.yw_states.specs.declared.cases.NetRow.{NetRow}
use Rattle.yw_states.specs.declared.cases.RunRow.{RunRow}
use Rattle.yw_states.specs.declared.cases.TokenRow.{TokenRow}

-- ---- the rows of some entries

abbrev pub net_rows_in : State → List Entry → List NetRow
net_rows_in s es = map (net_row s) (picked net_of_site es)

abbrev pub token_rows_in : State → List Entry → List TokenRow
token_rows_in s es = flat_map (token_rows s) (picked net_of_site es)

abbrev pub item_rows_in : State → List Entry → List ItemRow
item_rows_in s es = map (item_row s) (picked item_of_site es)

abbrev pub run_rows_in : List Entry → List RunRow
run_rows_in es = map run_row (picked run_of_site es)

abbrev pub marks_in : List Entry → List Ident
marks_in es = map (λ (e : Ident × Bool). e.0) (picked mark_of_site es)

abbrev pub due_rows_in : List Entry → List DueRow
due_rows_in es = map due_row (picked due_of_site es)

-- the row of a place's tokens, where there are some
abbrev pub marked : Ident → Place → ℕ → List TokenRow
marked j p n = if n == 0 then [] else record { ident = j; place = p; count = n } ∷ []

-- ---- what is added

-- All that stands at these entries comes at the end.
pub record Gathers (s : State) (es : List Entry) (old new : CaseLines) : Type 0 where
  pub nets : map row_of_net new.nets ≡ map row_of_net old.nets ++ net_rows_in s es
  pub tokens : map row_of_token new.tokens ≡ map row_of_token old.tokens ++ token_rows_in s es
  pub items : map row_of_item new.items ≡ map row_of_item old.items ++ item_rows_in s es
  pub runs : map row_of_run new.runs ≡ map row_of_run old.runs ++ run_rows_in es
  pub suspended : map ident_of_mark new.suspended ≡ map ident_of_mark old.suspended ++ marks_in es
  pub due : map row_of_due new.due ≡ map row_of_due old.due ++ due_rows_in es

-- The run, the mark and the checks of an entry come at the end, and all else stays.
pub record AddsMarks (e : Entry) (old new : CaseLines) : Type 0 where
  pub runs : map row_of_run new.runs ≡ map row_of_run old.runs ++ run_rows_in (e ∷ [])
  pub suspended : map ident_of_mark new.suspended ≡ map ident_of_mark old.suspended ++ marks_in (e ∷ [])
  pub due : map row_of_due new.due ≡ map row_of_due old.due ++ due_rows_in (e ∷ [])
  pub nets : new.nets ≡ old.nets
  pub tokens : new.tokens ≡ old.tokens
  pub items : new.items ≡ old.items

-- The net of an entry and its tokens come at the end, and all else stays.
pub record AddsNet (s : State) (e : Entry) (old new : CaseLines) : Type 0 where
  pub nets : map row_of_net new.nets ≡ map row_of_net old.nets ++ net_rows_in s (e ∷ [])
  pub tokens : map row_of_token new.tokens ≡ map row_of_token old.tokens ++ token_rows_in s (e ∷ [])
  pub items : new.items ≡ old.items
  pub runs : new.runs ≡ old.runs
  pub suspended : new.suspended ≡ old.suspended
  pub due : new.due ≡ old.due

-- ---- cases that are over

abbrev pub row_if_ended : ℕ → Option Way → List EndedRow
row_if_ended n None = []
row_if_ended n (Some way) = record { case = n; way = way } ∷ []

-- each number was drawn where this one is next
abbrev pub AreDrawn : ℕ → Map nat_cmp Way → Type 0
AreDrawn next ended = (n : ℕ) (way : Way) → get ended n ≡ Some way → (1 ≤ n) × (n < next)
