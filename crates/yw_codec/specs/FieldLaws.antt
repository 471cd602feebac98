-- The bytes of numbers, names, texts and identities tell where they end; so do those of two fields, one behind the other.
use Rattle.std.proofs.Common.{◌≡◌, ◌&&◌, ◌==◌, ◌||◌, ◌^◌, ◌<◌, ◌≤◌, ◌+◌, ◌-◌, ℕ, zero, suc, ℤ, pos, negsuc, List, [], ◌∷◌, ◌++◌, length, Bool, true, false, not, nat_lt, nat_le, refl, sym, ap, ◌∙◌, arith, take, drop, get_or, append_assoc, length-append, Option, Some, None}
use Rattle.std.specs.Int.{w64, cast_unsigned, cast_signed}
use Rattle.std.specs.List.{flat_map, list_all}
use Rattle.std.specs.Str.{IsUtf8, is_utf8}
use Rattle.std.proofs.lemmas.Str.{IsUtf8-from_is_utf8, is_utf8-from_IsUtf8}
use Rattle.std.proofs.lemmas.Bool.{lt-ltb, ltb-false, ltb-true}
use Rattle.std.proofs.lemmas.Int.{of_z-to_z}
use Rattle.std.proofs.lemmas.List.{take_at, drop_at}
use Rattle.byteorder.specs.Endian.{big_bytes, big_number}
use Rattle.byteorder.specs.Numbers.{big_number-reads_back}
use Rattle.yw_base.specs.Spelling.{is_name}
use Rattle.yw_codec.specs.Fields.{u32_end, u64_end, is_u32, is_u64, u32_bytes, u64_bytes, is_i64, i64_bytes, is_flag, flag_bytes, name_bytes, is_name_or_none, name_or_none_bytes, is_text, text_bytes}
use Rattle.yw_codec.specs.Forms.{Stands, NoneStands, AreApart, pair_is, pair_bytes}

pub and_left : (p q : Bool) → (p && q) ≡ true → p ≡ true
and_left true q e = refl
and_left false q e = cc

pub and_right : (p q : Bool) → (p && q) ≡ true → q ≡ true
and_right true q e = e
and_right false q e = cc

pub both_true : (p q : Bool) → p ≡ true → q ≡ true → (p && q) ≡ true
both_true p q e f = cc

-- the first byte
abbrev pub head_of : List ℕ → ℕ
head_of l = get_or l 0 0

-- ---- two fields

-- the first of two stands at the front, and the second behind it
pub first_of_two : {X Y : Type 0} (p : X → Bool) (f : X → List ℕ) (q : Y → Bool) (g : Y → List ℕ) (whole rest : List ℕ) (v : X × Y)
    → Stands (pair_is p q) (pair_bytes f g) whole v rest → Stands p f whole v.0 (g v.1 ++ rest)
first_of_two p f q g whole rest v s = record { in_range = and_left (p v.0) (q v.1) s.in_range; split = s.split ∙ append_assoc (f v.0) (g v.1) rest }

pub second_of_two : {X Y : Type 0} (p : X → Bool) (f : X → List ℕ) (q : Y → Bool) (g : Y → List ℕ) (whole rest mid : List ℕ) (v : X × Y)
    → mid ≡ g v.1 ++ rest → Stands (pair_is p q) (pair_bytes f g) whole v rest → Stands q g mid v.1 rest
second_of_two p f q g whole rest mid v is s = record { in_range = and_right (p v.0) (q v.1) s.in_range; split = is }

pub pair_apart : {X Y : Type 0} (p : X → Bool) (f : X → List ℕ) (q : Y → Bool) (g : Y → List ℕ) → AreApart p f → AreApart q g → AreApart (pair_is p q) (pair_bytes f g)
pair_apart p f q g one two v w whole x y sv sw =
    let first = one v.0 w.0 whole (g v.1 ++ x) (g w.1 ++ y) (first_of_two p f q g whole x v sv) (first_of_two p f q g whole y w sw) in
    let second = two v.1 w.1 (g v.1 ++ x) x y (second_of_two p f q g whole x (g v.1 ++ x) v refl sv) (second_of_two p f q g whole y (g v.1 ++ x) w first.1 sw) in
    (both v w first.0 second.0, second.1)
  where
    both : {X Y : Type 0} (v w : X × Y) → v.0 ≡ w.0 → v.1 ≡ w.1 → v ≡ w
    both {X = X} {Y = Y} v w e d = ap (λ (a : X). (a, v.1)) e ∙ ap (λ (b : Y). (w.0, b)) d

-- no two stand where no first does
pub none_without_first : {X Y : Type 0} (p : X → Bool) (f : X → List ℕ) (q : Y → Bool) (g : Y → List ℕ) (whole : List ℕ) → NoneStands p f whole → NoneStands (pair_is p q) (pair_bytes f g) whole
none_without_first p f q g whole none v rest s = none v.0 (g v.1 ++ rest) (first_of_two p f q g whole rest v s)

-- and where no second stands behind the first
pub none_without_second : {X Y : Type 0} (p : X → Bool) (f : X → List ℕ) (q : Y → Bool) (g : Y → List ℕ) (whole mid : List ℕ) (a : X)
    → AreApart p f → Stands p f whole a mid → NoneStands q g mid → NoneStands (pair_is p q) (pair_bytes f g) whole
none_without_second p f q g whole mid a apart one none v rest s =
    let same = apart a v.0 whole mid (g v.1 ++ rest) one (first_of_two p f q g whole rest v s) in
    none v.1 rest (second_of_two p f q g whole rest mid v same.1 s)

-- ---- numbers

number_apart : (size m n : ℕ) (x y : List ℕ) → m < 256 ^ size → n < 256 ^ size → big_bytes size m ++ x ≡ big_bytes size n ++ y → m ≡ n
number_apart size m n x y small_m small_n e = sym (big_number-reads_back size m x small_m) ∙ ap (big_number size) e ∙ big_number-reads_back size n y small_n

pub u32_apart : AreApart is_u32 u32_bytes
u32_apart m n whole x y sm sn =
    let e : u32_bytes m ++ x ≡ u32_bytes n ++ y = sym sm.split ∙ sn.split in
    (number_apart 4 m n x y (ltb-true m u32_end sm.in_range) (ltb-true n u32_end sn.in_range) e, ap (drop 4) e)

pub u64_apart : AreApart is_u64 u64_bytes
u64_apart m n whole x y sm sn =
    let e : u64_bytes m ++ x ≡ u64_bytes n ++ y = sym sm.split ∙ sn.split in
    (number_apart 8 m n x y (ltb-true m u64_end sm.in_range) (ltb-true n u64_end sn.in_range) e, ap (drop 8) e)

pub i64_unsigned : (v : ℤ) (whole rest : List ℕ) → Stands is_i64 i64_bytes whole v rest → Stands is_u64 u64_bytes whole (cast_unsigned w64 v) rest
i64_unsigned (pos n) whole rest s = record { in_range = lt-ltb n u64_end (omega (arith, ltb-true n 9223372036854775808 s.in_range)); split = s.split }
i64_unsigned (negsuc n) whole rest s = record { in_range = lt-ltb (18446744073709551616 - suc n) u64_end (omega arith); split = s.split }

pub no_i64 : (whole : List ℕ) → NoneStands is_u64 u64_bytes whole → NoneStands is_i64 i64_bytes whole
no_i64 whole none v rest s = none (cast_unsigned w64 v) rest (i64_unsigned v whole rest s)

signed_is : (n : ℕ) → n < u64_end → is_i64 (cast_signed w64 n) ≡ true
signed_is n small = by_case (nat_lt n 9223372036854775808) refl
  where
    by_case : (b : Bool) → nat_lt n 9223372036854775808 ≡ b → is_i64 (cast_signed w64 n) ≡ true
    by_case true e = rw e e
    by_case false e = rw e (lt-ltb (18446744073709551616 - suc n) 9223372036854775808 (omega (arith, ltb-false n 9223372036854775808 e)))

pub i64_read : (n : ℕ) (whole rest : List ℕ) → Stands is_u64 u64_bytes whole n rest → Stands is_i64 i64_bytes whole (cast_signed w64 n) rest
i64_read n whole rest s =
    let small : n < u64_end = ltb-true n u64_end s.in_range in
    record {
      in_range = signed_is n small;
      split = s.split ∙ ap (λ (k : ℕ). u64_bytes k ++ rest) (sym (of_z-to_z w64 n small));
    }

unsigned_apart : (v w : ℤ) → is_i64 v ≡ true → is_i64 w ≡ true → cast_unsigned w64 v ≡ cast_unsigned w64 w → v ≡ w
unsigned_apart (pos m) (pos n) is_v is_w e = ap (λ (k : ℕ). pos k) e
unsigned_apart (pos m) (negsuc n) is_v is_w e = absurd (omega (arith, e, ltb-true m 9223372036854775808 is_v, ltb-true n 9223372036854775808 is_w))
unsigned_apart (negsuc m) (pos n) is_v is_w e = absurd (omega (arith, e, ltb-true m 9223372036854775808 is_v, ltb-true n 9223372036854775808 is_w))
unsigned_apart (negsuc m) (negsuc n) is_v is_w e = ap (λ (k : ℕ). negsuc k) (omega (arith, e, ltb-true m 9223372036854775808 is_v, ltb-true n 9223372036854775808 is_w))

pub i64_apart : AreApart is_i64 i64_bytes
i64_apart v w whole x y sv sw =
    let same = u64_apart (cast_unsigned w64 v) (cast_unsigned w64 w) whole x y (i64_unsigned v whole x sv) (i64_unsigned w whole y sw) in
    (unsigned_apart v w sv.in_range sw.in_range same.0, same.1)

pub flag_apart : AreApart is_flag flag_bytes
flag_apart true true whole x y sm sn = (refl, ap (drop 1) (sym sm.split ∙ sn.split))
flag_apart false false whole x y sm sn = (refl, ap (drop 1) (sym sm.split ∙ sn.split))
flag_apart true false whole x y sm sn = absurd (omega (arith, ap (λ (l : List ℕ). get_or l 0 0) (sym sm.split ∙ sn.split)))
flag_apart false true whole x y sm sn = absurd (omega (arith, ap (λ (l : List ℕ). get_or l 0 0) (sym sm.split ∙ sn.split)))

-- ---- names and texts

-- what a length stands in front of is told by it
pub sized_apart : (m n x y : List ℕ) → length m ≡ length n → m ++ x ≡ n ++ y → (m ≡ n) × (x ≡ y)
sized_apart m n x y size e = (
  sym (take_at m x (length m) refl) ∙ ap (take (length m)) e ∙ take_at n y (length m) (sym size),
  sym (drop_at m x (length m) refl) ∙ ap (drop (length m)) e ∙ drop_at n y (length m) (sym size),
)

pub name_apart : AreApart is_name name_bytes
name_apart m n whole x y sm sn =
    let e : name_bytes m ++ x ≡ name_bytes n ++ y = sym sm.split ∙ sn.split in
    sized_apart m n x y (ap (λ (l : List ℕ). get_or l 0 0) e) (ap (drop 1) e)

-- a name has a byte
name_some : (n : List ℕ) → is_name n ≡ true → 0 < length n
name_some [] is = cc
name_some (b ∷ n) is = omega arith

-- where no byte is left, nothing that has one stands
pub none_of_nothing : {X : Type 0} (is : X → Bool) (bytes : X → List ℕ) (whole : List ℕ) → ((v : X) → 0 < length (bytes v)) → whole ≡ [] → NoneStands is bytes whole
none_of_nothing is bytes whole some empty v rest s = omega (arith, some v, ap length (sym empty ∙ s.split), length-append (bytes v) rest)

pub name_or_none_apart : AreApart is_name_or_none name_or_none_bytes
name_or_none_apart None None whole x y sm sn = (refl, ap (drop 1) (sym sm.split ∙ sn.split))
name_or_none_apart None (Some n) whole x y sm sn = absurd (omega (arith, name_some n sn.in_range, ap (λ (l : List ℕ). get_or l 0 0) (sym sm.split ∙ sn.split)))
name_or_none_apart (Some m) None whole x y sm sn = absurd (omega (arith, name_some m sm.in_range, ap (λ (l : List ℕ). get_or l 0 0) (sym sm.split ∙ sn.split)))
name_or_none_apart (Some m) (Some n) whole x y sm sn =
    let same = name_apart m n whole x y (record { in_range = sm.in_range; split = sm.split }) (record { in_range = sn.in_range; split = sn.split }) in
    (ap (λ (l : List ℕ). Some l) same.0, same.1)

pub text_apart : AreApart is_text text_bytes
text_apart s t whole x y ss st =
    let e : u32_bytes (length s) ++ (s ++ x) ≡ u32_bytes (length t) ++ (t ++ y) = sym (append_assoc (u32_bytes (length s)) s x) ∙ sym ss.split ∙ st.split ∙ append_assoc (u32_bytes (length t)) t y in
    let size = u32_apart (length s) (length t) (u32_bytes (length s) ++ (s ++ x)) (s ++ x) (t ++ y)
    (record { in_range = and_right (is_utf8 s) (is_u32 (length s)) ss.in_range; split = refl })
    (record { in_range = and_right (is_utf8 t) (is_u32 (length t)) st.in_range; split = e }) in
    sized_apart s t x y size.0 size.1

-- the field that was read is the name whose bytes stand there
pub field_is_name : (size : ℕ) (whole field mid name rest : List ℕ) → whole ≡ field ++ mid → length field ≡ size → Stands is_name name_bytes (size ∷ whole) name rest → field ≡ name
field_is_name size whole field mid name rest split long s =
    (sized_apart field name mid rest (long ∙ ap (λ (l : List ℕ). get_or l 0 0) s.split) (sym split ∙ ap (drop 1) s.split)).0

pub text_read : (whole mid rest field : List ℕ) (size : ℕ) → Stands is_u32 u32_bytes whole size mid → mid ≡ field ++ rest → length field ≡ size → IsUtf8 field → Stands is_text text_bytes whole field rest
text_read whole mid rest field size front split long utf8 = record {
  in_range = both_true (is_utf8 field) (is_u32 (length field)) (is_utf8-from_IsUtf8 field utf8) (ap is_u32 long ∙ front.in_range);
  split = front.split ∙ ap (λ (l : List ℕ). u32_bytes size ++ l) split ∙ sym (append_assoc (u32_bytes size) field rest)
      ∙ ap (λ (n : ℕ). (u32_bytes n ++ field) ++ rest) (sym long);
}

-- the field that was read is the text whose bytes stand there
pub field_is_text : (whole mid behind rest field text : List ℕ) (size : ℕ) → Stands is_u32 u32_bytes whole size mid → mid ≡ field ++ behind → length field ≡ size → Stands is_text text_bytes whole text rest → field ≡ text
field_is_text whole mid behind rest field text size front split long s =
    let same = u32_apart size (length text) whole mid (text ++ rest) front
    (record { in_range = and_right (is_utf8 text) (is_u32 (length text)) s.in_range; split = s.split ∙ append_assoc (u32_bytes (length text)) text rest }) in
    (sized_apart field text behind rest (long ∙ same.0) (sym split ∙ same.1)).0

pub text_utf8 : (text : List ℕ) → is_text text ≡ true → IsUtf8 text
text_utf8 text is = IsUtf8-from_is_utf8 text (and_left (is_utf8 text) (is_u32 (length text)) is)
