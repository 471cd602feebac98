-- The identities of all that stands in a case, as a list.
use Rattle.std.specs.Prelude.{◌≡◌, ◌++◌, ℕ, List, map}
use Rattle.std.specs.Borrow.{Bor}
use Rattle.std.specs.List.{All, Contains}
use Rattle.yw_sites.specs.Entries.{Entries, Entry}
use Rattle.yw_state.specs.Identity.{Ident}
use Rattle.yw_base.specs.Identity.{case_number}
use Rattle.yw_state.specs.State.{Site, State}
use Rattle.yw_state.specs.Well.{Stands}

-- what is lent
abbrev pub lent : List (Bor Ident) → List Ident
lent bs = map (λ (b : Bor Ident). b.now) bs

-- the identities of entries, in their order
abbrev pub idents_of : Entries → List Ident
idents_of es = map (λ (e : Entry). e.0) es

-- the list has these more, at its end
abbrev pub Adds : List (Bor Ident) → List (Bor Ident) → List Ident → Type 0
Adds old new js = lent new ≡ lent old ++ js

-- These are the identities of all that stands in case n.
pub record AreAllIn (s : State) (n : ℕ) (js : List Ident) : Type 0 where
  pub all : (j : Ident) (x : Site) → Stands s j x → case_number j ≡ n → Contains js j
  pub of_case : All (λ j. case_number j ≡ n) js
