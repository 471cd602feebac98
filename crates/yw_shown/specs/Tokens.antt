-- The marked places of a net as rows by the texts of the places.
use Rattle.std.specs.Prelude.{◌≡◌, ◌≤◌, ℕ, List, map, min, Some, String, string_bytes}
use Rattle.std.specs.BTreeMap.{insert_entry}
use Rattle.std.specs.Cmp.Lexicographic.{slice_cmp}
use Rattle.std.specs.Ordering.{nat_cmp}
use Rattle.std.specs.declared.alloc.Global.{Global}
use Rattle.std.specs.declared.cmp.Ordering.{Ordering}
use Rattle.yw_spec.specs.Net.{place_text}
use Rattle.yw_spec.specs.declared.spec.Net.{Net}
use Rattle.yw_spec.specs.declared.spec.Place.{Place}
use Rattle.yw_spec.specs.declared.spec.Spec.{Spec}
use Rattle.yw_state.proofs.Entries.{IsIn}
use Rattle.yw_state.specs.Allowed.{most_tokens}
use Rattle.yw_state.specs.Identity.{Ident}
use Rattle.yw_state.specs.State.{NetAt, State, net_at}
use Rattle.yw_state.specs.Well.{NetFits}
use Rattle.yw_state.specs.declared.answer.TokenRow.{TokenRow}
use Rattle.yw_within.specs.Within.{NetIsWithin}

abbrev pub Text : Type 0
Text = String Global

abbrev pub text_cmp : Text → Text → Ordering
text_cmp a b = slice_cmp nat_cmp (string_bytes a) (string_bytes b)

-- a place with its tokens
abbrev pub Counted : Type 0
Counted = Place × ℕ

abbrev pub row_of : Ident → Counted → TokenRow
row_of i p = record { net = i; place = p.0; count = min p.1 most_tokens }

-- the rows of some entries
abbrev pub rows_of : List (Text × TokenRow) → List TokenRow
rows_of es = map (λ e. e.1) es

-- A marked place comes under its text, and one without tokens doesn't.
pub record PutsMarked (i : Ident) (p : Counted) (old new : List (Text × TokenRow)) : Type 0 where
  pub none : p.1 ≡ 0 → new ≡ old
  pub some : 1 ≤ p.1 → (key : Text) × (string_bytes key ≡ place_text p.0) × (new ≡ insert_entry text_cmp old key (row_of i p))

-- places with the same text have the same tokens
abbrev pub KnownByText : List Counted → Type 0
KnownByText ps = (p q : Counted) → IsIn ps p → IsIn ps q → place_text p.0 ≡ place_text q.0 → p ≡ q

-- The rows of those that are marked, each under its place's text.
pub record AreMarked (i : Ident) (ps : List Counted) (es : List (Text × TokenRow)) : Type 0 where
  pub named : (e : Text × TokenRow) → IsIn es e → string_bytes e.0 ≡ place_text e.1.place
  pub each : (e : Text × TokenRow) → IsIn es e → (p : Counted) × IsIn ps p × (1 ≤ p.1) × (e.1 ≡ row_of i p)
  pub there : KnownByText ps → (p : Counted) → IsIn ps p → 1 ≤ p.1 → IsIn (rows_of es) (row_of i p)

-- The net at i is this one, with these tokens on its places.
pub record IsCounted (s : State) (i : Ident) (net : Net) (marks : List ℕ) (n : NetAt) : Type 0 where
  pub here : net_at s i ≡ Some n
  pub of_net : n.net ≡ net
  pub tokens : n.part.tokens ≡ marks
  pub fits : NetFits n
  pub spec : Spec
  pub within : NetIsWithin spec net
