-- What is kept beside the specifications. Our own.
use Rattle.std.specs.Prelude.{◌≡◌, ◌⊎◌, ℕ, List, Some, length, map, slice_get}
use Rattle.yw_library.specs.Holdings.{Holdings, nothing, spec_under}
use Rattle.yw_path.specs.Upstream.{IsUpstreamOf}
use Rattle.yw_path.specs.declared.upstream.Upstream.{Upstream}
use Rattle.yw_spec.specs.declared.spec.Net.{Net}
use Rattle.yw_state.specs.Map.{Map, get, lexical, of_entries}
use Rattle.yw_state.specs.declared.loaded.Loaded.{Loaded}
use Rattle.yw_within.specs.Within.{IsWithin}

-- These are the upstreams of the nets, one for one.
pub record AreUpstreams (nets : List Net) (ups : List Upstream) : Type 0 where
  pub len : length ups ≡ length nets
  pub each : (k : ℕ) (net : Net) (up : Upstream) → slice_get nets k ≡ Some net → slice_get ups k ≡ Some up → IsUpstreamOf net up

-- as a state has them
abbrev pub by_name : List Loaded → Map lexical Loaded
by_name specs = of_entries (map spec_under specs)

-- Each specification has a row with the upstreams of its nets, is within, and is found under its name.
pub record AreKnown (specs : List Loaded) (rows : List (List Upstream)) : Type 0 where
  pub len : length rows ≡ length specs
  pub rows_fit : (k : ℕ) (l : Loaded) (ups : List Upstream) → slice_get specs k ≡ Some l → slice_get rows k ≡ Some ups → AreUpstreams l.spec.nets ups
  pub within : (k : ℕ) (l : Loaded) → slice_get specs k ≡ Some l → IsWithin l.spec
  pub named : (k : ℕ) (l : Loaded) → slice_get specs k ≡ Some l → get (by_name specs) l.spec.name ≡ Some l

-- The first n specifications have a row each, with the upstreams of their nets, and are within.
pub record HaveRows (specs : List Loaded) (rows : List (List Upstream)) (n : ℕ) : Type 0 where
  pub len : length rows ≡ n
  pub fit : (k : ℕ) (l : Loaded) (ups : List Upstream) → slice_get specs k ≡ Some l → slice_get rows k ≡ Some ups → IsWithin l.spec × AreUpstreams l.spec.nets ups

-- what stays where memory lacks: all, or nothing
abbrev pub IsAllOrNothing : Holdings → Holdings → Type 0
IsAllOrNothing old new = (new ≡ old) ⊎ (new ≡ nothing)
