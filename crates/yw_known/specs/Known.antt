-- What is found by numbers.
use Rattle.std.specs.Prelude.{◌≡◌, ℕ, Option, Some, option_and_then, slice_get}
use Rattle.yw_known.specs.declared.known.KnownNet.{KnownNet}
use Rattle.yw_library.specs.Holdings.{Holdings, IsKept}
use Rattle.yw_path.specs.Upstream.{IsUpstreamOf}
use Rattle.yw_spec.specs.declared.spec.Net.{Net}
use Rattle.yw_state.specs.declared.loaded.Loaded.{Loaded}
use Rattle.yw_within.specs.Within.{IsWithin, NetIsWithin}

-- net n of specification k
abbrev pub net_numbered : Holdings → ℕ → ℕ → Option Net
net_numbered known k n = option_and_then (λ (l : Loaded). slice_get l.spec.nets n) (slice_get known.specs k)

-- It is net n of specification k, which is kept under its name, and the upstream is the net's own.
pub record IsKnownNet (known : Holdings) (k n : ℕ) (found : KnownNet) : Type 0 where
  pub kept : IsKept known found.spec.now.name found.spec.now k
  pub of_spec : slice_get found.spec.now.nets n ≡ Some found.net.now
  pub spec_within : IsWithin found.spec.now
  pub within : NetIsWithin found.spec.now found.net.now
  pub upstream : IsUpstreamOf found.net.now found.up.now
