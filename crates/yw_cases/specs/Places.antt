-- Places of a net by their numbers.
use Rattle.std.specs.Prelude.{Some, slice_get, ℕ, ◌≡◌}
use Rattle.yw_spec.specs.declared.spec.Net.{Net}
use Rattle.yw_spec.specs.declared.spec.Place.{Place}
use Rattle.yw_state.specs.Nets.{place_number}

-- No two places of the net are alike: each is found by its own number.
abbrev pub ArePlacesApart : Net → Type 0
ArePlacesApart net = (k : ℕ) (p : Place) → slice_get net.places k ≡ Some p → place_number net p ≡ Some k
