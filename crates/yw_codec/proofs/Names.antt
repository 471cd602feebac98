-- Names are ASCII.
use Rattle.std.proofs.Common.{◌≡◌, ◌==◌, ◌&&◌, ◌||◌, ℕ, zero, suc, ◌<◌, Bool, true, false, not, nat_le, nat_lt, List, [], ◌∷◌, length, get_or, refl, arith}
use Rattle.std.specs.List.{list_all}
use Rattle.std.specs.Str.{IsAscii, IsUtf8}
use Rattle.std.proofs.lemmas.Bool.{eqb-true, leb-true}
use Rattle.std.proofs.lemmas.Str.{IsUtf8-from_ascii}
use Rattle.yw_base.specs.Spelling.{is_name, is_word_byte, is_digit, is_letter, most_name_bytes}
use Rattle.yw_codec.specs.FieldLaws.{and_left, and_right}

either : (p q : Bool) (P : Type 0) → (p || q) ≡ true → (p ≡ true → P) → (q ≡ true → P) → P
either true q P e f g = f refl
either false q P e f g = g e

word_small : (b : ℕ) → is_word_byte b ≡ true → b < 128
word_small b e =
    either (b == 95 || is_digit b) (is_letter b) (b < 128) e
    (λ (f : (b == 95 || is_digit b) ≡ true). either (b == 95) (is_digit b) (b < 128) f
    (λ (g : (b == 95) ≡ true). omega (arith, eqb-true b 95 g))
    (λ (g : is_digit b ≡ true). omega (arith, leb-true b 57 (and_right (nat_le 48 b) (nat_le b 57) g))))
    (λ (f : is_letter b ≡ true). either (nat_le 65 b && nat_le b 90) (nat_le 97 b && nat_le b 122) (b < 128) f
    (λ (g : (nat_le 65 b && nat_le b 90) ≡ true). omega (arith, leb-true b 90 (and_right (nat_le 65 b) (nat_le b 90) g)))
    (λ (g : (nat_le 97 b && nat_le b 122) ≡ true). omega (arith, leb-true b 122 (and_right (nat_le 97 b) (nat_le b 122) g))))

words_ascii : (xs : List ℕ) → list_all is_word_byte xs ≡ true → IsAscii xs
words_ascii [] e i = omega arith
words_ascii (x ∷ xs) e zero = word_small x (and_left (is_word_byte x) (list_all is_word_byte xs) e)
words_ascii (x ∷ xs) e (suc i) = words_ascii xs (and_right (is_word_byte x) (list_all is_word_byte xs) e) i

pub name_utf8 : (xs : List ℕ) → is_name xs ≡ true → IsUtf8 xs
name_utf8 xs e = IsUtf8-from_ascii xs (words_ascii xs (and_right (nat_lt 0 (length xs) && nat_le (length xs) most_name_bytes && not (is_digit (get_or xs 0 0))) (list_all is_word_byte xs) e))
