-- A net, made of its row and of the rows of its tokens.
use Rattle.std.specs.Prelude.{◌≡◌, ◌≤◌, ◌++◌, ℕ, List, Bool, length, drop, position, slice_get, Option, Some, None}
use Rattle.std.specs.Str.{bytes_eq}
use Rattle.yw_library.specs.Holdings.{Holdings, IsKept, with_library}
use Rattle.yw_library.specs.Names.{names_of}
use Rattle.yw_revive.specs.Grown.{IsBareNet}
use Rattle.yw_revive.specs.Taken.{AreOnce, NoneOf}
use Rattle.yw_revive.specs.declared.net.FoundNet.{FoundNet}
use Rattle.yw_spec.specs.declared.spec.Net.{Net}
use Rattle.yw_spec.specs.declared.spec.Spec.{Spec}
use Rattle.yw_state.specs.Identity.{Ident}
use Rattle.yw_state.specs.State.{NetPart, State, net_of, spec_called}
use Rattle.yw_states.specs.States.{NetsAreNamed, net_row, token_rows}
use Rattle.yw_states.specs.declared.cases.NetRow.{NetRow}
use Rattle.yw_states.specs.declared.cases.TokenRow.{TokenRow}
use Rattle.yw_tree.specs.Entries.{net_part}
use Rattle.yw_tree.specs.declared.NetState.{NetState, out-NetState}

abbrev pub has_name : List ℕ → Net → Bool
has_name name n = bytes_eq n.name name

-- The net of these names, with its numbers.
pub record IsNetNamed (library : Holdings) (spec name : List ℕ) (found : FoundNet) : Type 0 where
  pub its_spec : Spec
  pub kept : IsKept library spec its_spec found.spec
  pub numbered : position (has_name name) its_spec.nets ≡ Some found.number
  pub of_spec : slice_get its_spec.nets found.number ≡ Some found.net.now
  pub its_name : found.net.now.name ≡ name

-- There is no net of these names.
abbrev pub NoNetNamed : Holdings → List ℕ → List ℕ → Type 0
NoNetNamed library spec name = (s : State) (its : Spec) → spec_called (with_library s library) spec ≡ Some its → position (has_name name) its.nets ≡ None

abbrev pub IsFoundNet : Holdings → List ℕ → List ℕ → Option FoundNet → Type 0
IsFoundNet library spec name None = NoNetNamed library spec name
IsFoundNet library spec name (Some found) = IsNetNamed library spec name found

-- What a net that stands in a state has by its specification: it is found by its name, has a count for each place, and no place comes twice.
pub record IsNetIn (s : State) (n : NetPart) : Type 0 where
  pub spec : Spec
  pub net : Net
  pub of_spec : spec_called s n.spec ≡ Some spec
  pub of_net : slice_get spec.nets n.net ≡ Some net
  pub named : NetsAreNamed spec
  pub once : AreOnce net.places
  pub places : length n.tokens ≡ length net.places

-- The net has the row, and from the rows of tokens its own come first; and of each net that has the row, with rows of tokens of its own first
-- and those of other nets after them, this is the part, and these are those of the others. No item stands in it, and it has a list for each task.
pub record HasRow (library : Holdings) (row : NetRow) (tokens : List TokenRow) (from : ℕ) (net : NetState) (to : ℕ) : Type 0 where
  pub bare : IsBareNet net
  pub within : to ≤ length tokens
  pub its_row : (s : State) → net_row (with_library s library) (row.ident, net_part (names_of library) net) ≡ row
  pub its_tokens : (s : State) → token_rows (with_library s library) (row.ident, net_part (names_of library) net) ++ drop to tokens ≡ drop from tokens
  pub only : (s : State) (n : NetPart) (others : List TokenRow) → IsNetIn (with_library s library) n → net_row (with_library s library) (row.ident, n) ≡ row
      → NoneOf row.ident others → token_rows (with_library s library) (row.ident, n) ++ others ≡ drop from tokens
      → (n ≡ net_part (names_of library) net) × (others ≡ drop to tokens)

-- It has the row; or no net has.
abbrev pub IsReadNet : Holdings → NetRow → List TokenRow → ℕ → Option (NetState × ℕ) → Type 0
IsReadNet library row tokens from (Some found) = HasRow library row tokens from found.0 found.1
IsReadNet library row tokens from None =
    (s : State) (n : NetPart) → IsNetIn (with_library s library) n → net_row (with_library s library) (row.ident, n) ≡ row → ⊥
