-- What stands at an identity, by the map.
use Rattle.std.specs.Prelude.{◌≡◌, ◌&&◌, Bool, List, Option, is_some, not, option_and_then, slice_get, true, ℕ}
use Rattle.yw_state.specs.Identity.{Ident}
use Rattle.yw_state.specs.Map.{get}
use Rattle.yw_state.specs.Options.{is_some_and}
use Rattle.yw_state.specs.State.{Site}
use Rattle.yw_state.specs.declared.tree.Primitive.{Primitive}
use Rattle.yw_tree.specs.Forest.{sites_of}
use Rattle.yw_tree.specs.Places.{run_of}
use Rattle.yw_tree.specs.declared.Forest.{Forest}
use Rattle.yw_tree.specs.declared.Run.{Run, out-Run}

abbrev pub is_no_run : Site → Bool
is_no_run x = not (is_some x.run)

abbrev pub is_run : Site → Bool
is_run x = is_some x.run

abbrev pub is_bare_run : Site → Bool
is_bare_run x = is_some x.run && not (is_some x.net)

-- a case or an item stands at j
abbrev pub TargetAt : Forest → Ident → Type 0
TargetAt f j = (names : ℕ → List ℕ) → is_some_and (get (sites_of names f) j) is_no_run ≡ true

-- a run stands at r
abbrev pub RunAt : Forest → Ident → Type 0
RunAt f r = (names : ℕ → List ℕ) → is_some_and (get (sites_of names f) r) is_run ≡ true

-- a run without a net stands at r
abbrev pub BareRunAt : Forest → Ident → Type 0
BareRunAt f r = (names : ℕ → List ℕ) → is_some_and (get (sites_of names f) r) is_bare_run ≡ true

-- what the run at r has to do first
abbrev pub first_at : Forest → Ident → Option Primitive
first_at f r = option_and_then (λ (x : Run). slice_get (out-Run x).rest 0) (run_of f r)
