-- The bytes of places tell where they end.
use Rattle.std.proofs.Common.{◌≡◌, ◌<◌, ℕ, List, [], ◌∷◌, ◌++◌, length, refl, sym, ap, ◌∙◌, arith, drop, get_or}
use Rattle.yw_base.specs.Spelling.{is_name}
use Rattle.yw_codec.specs.FieldLaws.{name_apart, none_of_nothing, pair_apart}
use Rattle.yw_codec.specs.Fields.{name_bytes, is_place, place_bytes}
use Rattle.yw_codec.specs.Forms.{Stands, NoneStands, AreApart, pair_is, pair_bytes}
use Rattle.yw_spec.specs.declared.spec.Place.{Place}
use Rattle.yw_spec.specs.declared.spec.Place.TheVariants as places

pub place_apart : AreApart is_place place_bytes
place_apart (places.Named a) (places.Named b) whole x y s t =
    let same = name_apart a b (drop 1 whole) x y (record { in_range = s.in_range; split = ap (drop 1) s.split }) (record { in_range = t.in_range; split = ap (drop 1) t.split }) in
    (ap (λ (v : List ℕ). places.Named v) same.0, same.1)
place_apart (places.Between a b) (places.Between c d) whole x y s t =
    let same = pair_apart is_name name_bytes is_name name_bytes name_apart name_apart (a, b) (c, d) (drop 1 whole) x y
    (record { in_range = s.in_range; split = ap (drop 1) s.split }) (record { in_range = t.in_range; split = ap (drop 1) t.split }) in
    (ap (λ (v : List ℕ × List ℕ). places.Between v.0 v.1) same.0, same.1)
place_apart v w whole x y s t = absurd (omega (arith, ap (λ (l : List ℕ). get_or l 0 0) (sym s.split ∙ t.split)))

place_some : (v : Place) → 0 < length (place_bytes v)
place_some (places.Named n) = omega arith
place_some v = omega arith

-- none stands where no byte is left, and by its tag where no name or names stand behind that
pub no_place_of_nothing : (whole : List ℕ) → whole ≡ [] → NoneStands is_place place_bytes whole
no_place_of_nothing whole empty = none_of_nothing is_place place_bytes whole place_some empty

pub no_named : (mid : List ℕ) → NoneStands is_name name_bytes mid → NoneStands is_place place_bytes (0 ∷ mid)
no_named mid none (places.Named n) rest s = none n rest (record { in_range = s.in_range; split = ap (drop 1) s.split })
no_named mid none v rest s = absurd (omega (arith, ap (λ (l : List ℕ). get_or l 0 0) s.split))

pub no_between : (mid : List ℕ) → NoneStands (pair_is is_name is_name) (pair_bytes name_bytes name_bytes) mid → NoneStands is_place place_bytes (1 ∷ mid)
no_between mid none (places.Between a b) rest s = none (a, b) rest (record { in_range = s.in_range; split = ap (drop 1) s.split })
no_between mid none v rest s = absurd (omega (arith, ap (λ (l : List ℕ). get_or l 0 0) s.split))
