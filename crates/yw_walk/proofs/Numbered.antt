-- Places of a net have one number each.
use Rattle.std.proofs.Common.{List, Some, [], ap, get_or, length, refl, sym, true, ℕ, ◌∙◌, ◌∷◌, ◌≡◌}
use Rattle.std.proofs.lemmas.Bool.{and_parts}
use Rattle.std.proofs.lemmas.List.Quantifiers.{position-Some}
use Rattle.std.proofs.lemmas.Option.{slice_get_read}
use Rattle.std.proofs.lemmas.Slice.Eq.{bytes_eq-Decides}
use Rattle.std.specs.List.{cons_option}
use Rattle.std.specs.Prelude.{option_map, slice_get}
use Rattle.std.specs.Str.{bytes_eq}
use Rattle.yw_spec.specs.declared.spec.Net.{Net}
use Rattle.yw_spec.specs.declared.spec.Place.{Place}
use Rattle.yw_spec.specs.declared.spec.Place.TheVariants.{Between, Named}
use Rattle.yw_state.proofs.Tests.{map_some, never, some_same, then_some}
use Rattle.yw_state.specs.Allowed.{place_numbers}
use Rattle.yw_state.specs.Nets.{place_number, same_place}
use Rattle.yw_walk.specs.Places.{places_numbered}

same_place_is : (p q : Place) → same_place p q ≡ true → p ≡ q
same_place_is (Named a) (Named b) e = ap Named ((bytes_eq-Decides a b).0 e)
same_place_is (Between a b) (Between c d) e =
    let parts = and_parts (bytes_eq a c) (bytes_eq b d) e in
    let front = (bytes_eq-Decides a c).0 parts.0 in
    let back = (bytes_eq-Decides b d).0 parts.1 in
    cc
same_place_is p q e = never e

-- a place that has a number is the one with it
pub at_its_number : (net : Net) (p : Place) (c : ℕ) → place_number net p ≡ Some c → slice_get net.places c ≡ Some p
at_its_number net p c e =
    let found = position-Some (same_place p) net.places c p e in
    slice_get_read net.places (length net.places) c p refl found.0 (same_place_is p (get_or net.places c p) found.1)

-- places that have these numbers are those with them
pub are_numbered : (net : Net) (ps : List Place) (cs : List ℕ) → place_numbers net ps ≡ Some cs → places_numbered net cs ≡ ps
are_numbered net [] cs e = ap (places_numbered net) (sym (some_same [] cs e))
are_numbered net (p ∷ ps) cs e =
    let first = then_some (λ (c : ℕ). option_map (λ ds. c ∷ ds) (place_numbers net ps)) (place_number net p) cs e in
    let rest = map_some (λ (ds : List ℕ). first.0 ∷ ds) (place_numbers net ps) cs first.2 in
    ap (places_numbered net) (sym rest.2) ∙ ap (λ o. cons_option o (places_numbered net rest.0)) (at_its_number net p first.0 first.1)
    ∙ ap (λ qs. p ∷ qs) (are_numbered net ps rest.0 rest.1)
