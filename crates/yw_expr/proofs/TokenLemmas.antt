-- The tokens of a text are parts of it, numbers are i64s, and a text may be cut at its quotes and at the ends of its names.
use Rattle.std.proofs.Common.{◌≡◌, ℕ, ◌+◌, ◌-◌, ◌^◌, ◌<◌, ◌≤◌, true, false, List, [], ◌∷◌, ◌++◌, length, get_or, refl, sym, ap, ◌∙◌, subst, arith, length-append, length-take, length-drop, get_or-take, get_or-drop}
use Rattle.std.specs.Prelude.{Bool, slice_range}
use Rattle.std.specs.List.{All, list_all}
use Rattle.std.specs.Str.{IsUtf8, IsCharBoundary}
use Rattle.std.proofs.Math.Seq.{get_or-append_seam}
use Rattle.std.proofs.lemmas.Bool.Decides.{nat_tests}
use Rattle.std.proofs.lemmas.List.Elements.{All-weaker}
use Rattle.std.proofs.lemmas.List.Folds.{list_all_at}
use Rattle.std.proofs.lemmas.Str.{IsCharBoundary-before_ascii, IsCharBoundary-after_ascii}
use Rattle.yw_base.specs.Spelling.{is_name, is_word_byte, most_name_bytes}
use Rattle.yw_lex.specs.Spelling.{Spells, IsText, is_number, number_of, quote}
use Rattle.yw_lex.specs.Tokens.{StandsIn}
use Rattle.yw_lex.specs.declared.token.Token.{Token}
use Rattle.yw_lex.specs.declared.token.Word.{Word}
use Rattle.yw_lex.specs.declared.token.Word.TheVariants as words
use Rattle.yw_expr.specs.Lexemes.{IsSoundWord, IsSoundToken, span}
use Rattle.yw_expr.specs.Typing.{IsTextPart}

small_number : (bytes : List ℕ) → is_number bytes ≡ true → number_of bytes < 2 ^ 63
small_number bytes h = grind (arith, nat_tests)

-- ---- the bytes of a name are ASCII
words_alone : (bytes : List ℕ) → is_name bytes ≡ true → list_all is_word_byte bytes ≡ true
words_alone bytes h = grind (arith, nat_tests)

short_name : (bytes : List ℕ) → is_name bytes ≡ true → length bytes ≤ most_name_bytes
short_name bytes h = grind (arith, nat_tests)

ascii_word : (byte : ℕ) → is_word_byte byte ≡ true → byte < 128
ascii_word byte h = grind (arith, nat_tests)

ascii_byte : (bytes : List ℕ) (i : ℕ) → list_all is_word_byte bytes ≡ true → i < length bytes → (b : Bool) → is_word_byte (get_or bytes i 0) ≡ b → get_or bytes i 0 < 128
ascii_byte bytes i h k true e = ascii_word (get_or bytes i 0) e
ascii_byte bytes i h k false e = let f = list_all_at is_word_byte bytes i 0 k e in cc

ascii_at : (bytes : List ℕ) (i : ℕ) → is_name bytes ≡ true → i < length bytes → get_or bytes i 0 < 128
ascii_at bytes i h k = ascii_byte bytes i (words_alone bytes h) k (is_word_byte (get_or bytes i 0)) refl

part_at : (text : List ℕ) (from to i j : ℕ) → j ≡ from + i → i < to - from → get_or (slice_range text from to) i 0 ≡ get_or text j 0
part_at text from to i j e h = rw (get_or-take, get_or-drop) (ap (λ n. get_or text n 0) (sym e))

length_part : (text : List ℕ) (from to : ℕ) → from < to → to ≤ length text → length (slice_range text from to) ≡ to - from
length_part text from to h k = simp (length-take, length-drop) (omega arith)

module _ (text : List ℕ) (utf8 : IsUtf8 text) (from to : ℕ) (forward : from < to) (inside : to ≤ length text) where
  first_is_quote : IsText (slice_range text from to) → get_or text from 0 ≡ quote
  first_is_quote q = sym (part_at text from to 0 from (omega arith) (omega arith)) ∙ ap (λ s. get_or s 0 0) q.quoted

  last_is_quote : (inner : List ℕ) → slice_range text from to ≡ quote ∷ (inner ++ quote ∷ []) → length inner + 2 ≡ to - from → get_or text (to - 1) 0 ≡ quote
  last_is_quote inner e n =
      sym (part_at text from to (length (quote ∷ inner)) (to - 1) (omega arith) (omega arith))
      ∙ ap (λ s. get_or s (length (quote ∷ inner)) 0) e
      ∙ get_or-append_seam (quote ∷ inner) quote [] 0

  length_is : (inner : List ℕ) → slice_range text from to ≡ quote ∷ (inner ++ quote ∷ []) → length inner + 2 ≡ to - from
  length_is inner e = let len = length_part text from to forward inside in omega (arith, ap length e, length-append inner (quote ∷ []))

  text_part : IsText (slice_range text from to) → IsTextPart text (span (from + 1) (to - 1))
  text_part q =
      let n = length_is q.inner q.quoted in
      let first = first_is_quote q in
      let last = last_is_quote q.inner q.quoted n in
      let short = q.short in
      record {
        forward = omega arith;
        start = IsCharBoundary-after_ascii text from utf8 (omega arith) (omega arith);
        end = IsCharBoundary-before_ascii text (to - 1) (omega arith) (omega arith);
        short = omega arith;
      }

  name_part : is_name (slice_range text from to) ≡ true → IsTextPart text (span from to)
  name_part q =
      let bytes = slice_range text from to in
      let n = length_part text from to forward inside in
      let few = short_name bytes q in
      let first = part_at text from to 0 from (omega arith) (omega arith) in
      let last = part_at text from to (to - from - 1) (to - 1) (omega arith) (omega arith) in
      let first_ascii = ascii_at bytes 0 q (omega arith) in
      let last_ascii = ascii_at bytes (to - from - 1) q (omega arith) in
      let e : to - 1 + 1 ≡ to = omega arith in
      record {
        forward = omega arith;
        start = IsCharBoundary-before_ascii text from (omega arith) (omega arith);
        end = subst (IsCharBoundary text) e (IsCharBoundary-after_ascii text (to - 1) utf8 (omega arith) (omega arith));
        short = omega arith;
      }

  sound_word : (word : Word) → Spells word (slice_range text from to) → IsSoundWord text word from to
  sound_word words.Number h = small_number (slice_range text from to) h
  sound_word words.Text h = text_part h
  sound_word words.Name h = name_part h.0
  sound_word words.Reserved h = tt
  sound_word words.Sign h = tt

sound_token : (text : List ℕ) → IsUtf8 text → (t : Token) → StandsIn text t → IsSoundToken text t
sound_token text utf8 t h = record {
  forward = let some = h.some in omega arith;
  inside = h.within;
  fitting = sound_word text utf8 t.from t.to h.some h.within t.word h.spelled;
}

pub sound_tokens : (text : List ℕ) → IsUtf8 text → (ts : List Token) → All (StandsIn text) ts → All (IsSoundToken text) ts
sound_tokens text utf8 ts h = All-weaker (StandsIn text) (IsSoundToken text) (sound_token text utf8) ts h
