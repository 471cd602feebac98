-- The bytes of values tell where they end.
use Rattle.std.proofs.Common.{◌≡◌, ◌<◌, ◌≢◌, ℕ, ℤ, List, [], ◌∷◌, ◌++◌, length, Bool, true, refl, sym, ap, ◌∙◌, arith, drop, get_or}
use Rattle.yw_base.specs.declared.value.Value.{Value}
use Rattle.yw_base.specs.declared.value.Value.TheVariants as values
use Rattle.yw_codec.specs.FieldLaws.{flag_apart, i64_apart, text_apart, none_of_nothing}
use Rattle.yw_codec.specs.Fields.{is_flag, flag_bytes, is_i64, i64_bytes, is_text, text_bytes, is_list, list_bytes, is_value, value_bytes}
use Rattle.yw_codec.specs.Forms.{Stands, NoneStands, AreApart}
use Rattle.yw_codec.specs.ListLaws.{list_apart}

-- two bytes at one front are one
abbrev pub same_tag : (whole x y : List ℕ) (s t : ℕ) → whole ≡ s ∷ x → whole ≡ t ∷ y → s ≡ t
same_tag whole x y s t e d = ap (λ (l : List ℕ). get_or l 0 0) (sym e ∙ d)

-- what stands behind a tag
pub behind : {X : Type 0} (is : X → Bool) (bytes : X → List ℕ) (whole mid rest : List ℕ) (tag : ℕ) (v : X) → is v ≡ true → whole ≡ tag ∷ mid → whole ≡ (tag ∷ bytes v) ++ rest → Stands is bytes mid v rest
behind is bytes whole mid rest tag v in_range e d = record { in_range = in_range; split = ap (drop 1) (sym e ∙ d) }

pub value_apart : AreApart is_value value_bytes
value_apart (values.Bool a) (values.Bool b) whole x y s t =
    let same = flag_apart a b (drop 1 whole) x y (record { in_range = refl; split = ap (drop 1) s.split }) (record { in_range = refl; split = ap (drop 1) t.split }) in
    (ap (λ (v : Bool). values.Bool v) same.0, same.1)
value_apart (values.Int a) (values.Int b) whole x y s t =
    let same = i64_apart a b (drop 1 whole) x y (record { in_range = s.in_range; split = ap (drop 1) s.split }) (record { in_range = t.in_range; split = ap (drop 1) t.split }) in
    (ap (λ (v : ℤ). values.Int v) same.0, same.1)
value_apart (values.Text a) (values.Text b) whole x y s t =
    let same = text_apart a b (drop 1 whole) x y (record { in_range = s.in_range; split = ap (drop 1) s.split }) (record { in_range = t.in_range; split = ap (drop 1) t.split }) in
    (ap (λ (v : List ℕ). values.Text v) same.0, same.1)
value_apart (values.Ints a) (values.Ints b) whole x y s t =
    let same = list_apart is_i64 i64_bytes i64_apart a b (drop 1 whole) x y (record { in_range = s.in_range; split = ap (drop 1) s.split }) (record { in_range = t.in_range; split = ap (drop 1) t.split }) in
    (ap (λ (v : List ℤ). values.Ints v) same.0, same.1)
value_apart (values.Texts a) (values.Texts b) whole x y s t =
    let same = list_apart is_text text_bytes text_apart a b (drop 1 whole) x y (record { in_range = s.in_range; split = ap (drop 1) s.split }) (record { in_range = t.in_range; split = ap (drop 1) t.split }) in
    (ap (λ (v : List (List ℕ)). values.Texts v) same.0, same.1)
value_apart v w whole x y s t = absurd (omega (arith, ap (λ (l : List ℕ). get_or l 0 0) (sym s.split ∙ t.split)))

-- each value has a byte
value_some : (v : Value) → 0 < length (value_bytes v)
value_some (values.Bool b) = omega arith
value_some v = omega arith

pub no_value_of_nothing : (whole : List ℕ) → whole ≡ [] → NoneStands is_value value_bytes whole
no_value_of_nothing whole empty = none_of_nothing is_value value_bytes whole value_some empty
