-- What a walk over the entries of a case adds to what is shown of it.
use Rattle.std.specs.Prelude.{◌≡◌, ◌↔◌, List, [], ◌∷◌, ◌++◌, map, filter, true, Contains}
use Rattle.std.specs.List.{filter_map, flat_map}
use Rattle.yw_base.specs.Identity.{case_number}
use Rattle.yw_state.specs.Answers.{IsTokenRow, due_rows, item_row, net_row, rises, run_row, token_before}
use Rattle.yw_state.specs.Identity.{Ident}
use Rattle.yw_state.specs.State.{State, Site}
use Rattle.yw_state.specs.declared.answer.Shown.{Shown}
use Rattle.yw_state.specs.declared.answer.TokenRow.{TokenRow}

abbrev pub Entry : Type 0
Entry = Ident × Site

abbrev pub no_rows : Shown
no_rows = record { due = []; items = []; nets = []; runs = []; suspended = []; tokens = [] }

abbrev pub suspended_in : List Entry → List Ident
suspended_in es = map (λ e. e.0) (filter (λ e. e.1.suspended) es)

-- The checks that are due, the run and the mark of an entry come at the end, and all else stays.
pub record AddsMarks (e : Entry) (old new : Shown) : Type 0 where
  pub due : new.due ≡ old.due ++ due_rows e
  pub runs : new.runs ≡ old.runs ++ filter_map run_row (e ∷ [])
  pub suspended : new.suspended ≡ old.suspended ++ suspended_in (e ∷ [])
  pub items : new.items ≡ old.items
  pub nets : new.nets ≡ old.nets
  pub tokens : new.tokens ≡ old.tokens

-- Exactly the tokens of the net at i, in order of the places' texts.
pub record AreTokensAt (s : State) (i : Ident) (rows : List TokenRow) : Type 0 where
  pub ordered : rises token_before rows ≡ true
  pub exact : (row : TokenRow) → Contains rows row ↔ (row.net ≡ i) × IsTokenRow s (case_number i) row

-- The tokens of the net at i come at the end.
pub record AddsTokens (s : State) (i : Ident) (old new : List TokenRow) : Type 0 where
  pub more : List TokenRow
  pub behind : new ≡ old ++ more
  pub are : AreTokensAt s i more

-- The net at i and its tokens come at the end, and all else stays.
pub record AddsNet (s : State) (e : Entry) (old new : Shown) : Type 0 where
  pub nets : new.nets ≡ old.nets ++ filter_map (net_row s) (e ∷ [])
  pub tokens : AddsTokens s e.0 old.tokens new.tokens
  pub due : new.due ≡ old.due
  pub runs : new.runs ≡ old.runs
  pub suspended : new.suspended ≡ old.suspended
  pub items : new.items ≡ old.items

-- All that an entry has comes at the end.
pub record AddsEntry (s : State) (e : Entry) (old new : Shown) : Type 0 where
  pub due : new.due ≡ old.due ++ due_rows e
  pub items : new.items ≡ old.items ++ filter_map (item_row s) (e ∷ [])
  pub nets : new.nets ≡ old.nets ++ filter_map (net_row s) (e ∷ [])
  pub runs : new.runs ≡ old.runs ++ filter_map run_row (e ∷ [])
  pub suspended : new.suspended ≡ old.suspended ++ suspended_in (e ∷ [])
  pub tokens : AddsTokens s e.0 old.tokens new.tokens

-- These are the tokens of the nets among some entries, in order.
pub record AreTokensOf (s : State) (es : List Entry) (rows : List TokenRow) : Type 0 where
  pub ordered : rises token_before rows ≡ true
  pub exact : (row : TokenRow) → Contains rows row ↔ Contains (map (λ e. e.0) es) row.net × IsTokenRow s (case_number row.net) row

-- All that stands at some entries, each kind in their order.
pub record ShowsEntries (s : State) (es : List Entry) (x : Shown) : Type 0 where
  pub due : x.due ≡ flat_map due_rows es
  pub items : x.items ≡ filter_map (item_row s) es
  pub nets : x.nets ≡ filter_map (net_row s) es
  pub runs : x.runs ≡ filter_map run_row es
  pub suspended : x.suspended ≡ suspended_in es
  pub tokens : AreTokensOf s es x.tokens
