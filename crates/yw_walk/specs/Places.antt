-- Places of a net by their numbers.
use Rattle.std.specs.List.{filter_map}
use Rattle.std.specs.Prelude.{ℕ, List, slice_get}
use Rattle.yw_spec.specs.declared.spec.Net.{Net}
use Rattle.yw_spec.specs.declared.spec.Place.{Place}

-- the places of the net with these numbers, in this order; a number that no place has names none
abbrev pub places_numbered : Net → List ℕ → List Place
places_numbered net numbers = filter_map (slice_get net.places) numbers
