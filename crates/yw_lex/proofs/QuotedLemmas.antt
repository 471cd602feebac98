-- What stands between the quotes of a token that is a text.
use Rattle.std.proofs.Common.{◌≡◌, ℕ, ◌+◌, ◌-◌, ◌≤◌, List, [], ◌∷◌, ◌++◌, length, get_or, take, drop, refl, sym, ap, ◌∙◌, arith, length-append, length-drop}
use Rattle.std.specs.Prelude.{slice_range}
use Rattle.std.specs.Str.{IsCharBoundary, IsUtf8}
use Rattle.std.proofs.lemmas.List.{drop-drop, drop-take, get_or-drop, length-take-le, take-take, take_at}
use Rattle.std.proofs.lemmas.Str.{IsCharBoundary-after_ascii, IsCharBoundary-before_ascii}
use Rattle.yw_lex.specs.Spelling.{IsText, quote}
use Rattle.yw_lex.proofs.FrontLemmas.{TextParts, text_parts}

module _ (text : List ℕ) (from to : ℕ) (within : to ≤ length text) (is : IsText (slice_range text from to)) where
  fits : to - from ≤ length (drop from text)
  fits = omega (arith, length-drop from text)

  parts : TextParts (drop from text) (to - from)
  parts = text_parts (drop from text) (to - from) fits is

  count : length is.inner + 2 ≡ to - from
  count = omega (arith, length-take-le (to - from) (drop from text) fits, ap length is.quoted, length-append is.inner (quote ∷ []))

  pub two : from + 2 ≤ to
  two = omega (arith, count)

  pub starts : IsUtf8 text → IsCharBoundary text (from + 1)
  starts utf8 =
      let same : from + 0 ≡ from = omega arith in
      let first : get_or text from 0 ≡ quote = ap (λ n. get_or text n 0) (sym same) ∙ sym (get_or-drop from text 0 0) ∙ parts.opened in
      IsCharBoundary-after_ascii text from utf8 (omega (arith, two)) (omega arith)

  pub ends : IsCharBoundary text (to - 1)
  ends =
      let same : from + (to - from - 1) ≡ to - 1 = omega (arith, two) in
      let last : get_or text (to - 1) 0 ≡ quote = ap (λ n. get_or text n 0) (sym same) ∙ sym (get_or-drop from text (to - from - 1) 0) ∙ parts.closed in
      IsCharBoundary-before_ascii text (to - 1) (omega (arith, two)) (omega arith)

  pub inner_is : slice_range text (from + 1) (to - 1) ≡ is.inner
  inner_is =
      let n = length is.inner in
      let rest = drop 1 (drop from text) in
      let whole : to - from ≡ 1 + (n + 1) = omega (arith, count) in
      let size : to - 1 - (from + 1) ≡ n = omega (arith, count) in
      let tail : take (n + 1) rest ≡ is.inner ++ quote ∷ [] =
      sym (drop-take 1 (n + 1) (drop from text)) ∙ ap (λ m. drop 1 (take m (drop from text))) (sym whole) ∙ ap (drop 1) is.quoted in
      ap (λ l. take (to - 1 - (from + 1)) l) (sym (drop-drop 1 from text)) ∙ ap (λ m. take m rest) size ∙ sym (take-take n (n + 1) rest (omega arith)) ∙ ap (take n) tail ∙ take_at is.inner (quote ∷ []) n refl

  pub quoted_is : slice_range text from to ≡ quote ∷ (slice_range text (from + 1) (to - 1) ++ quote ∷ [])
  quoted_is = is.quoted ∙ ap (λ l. quote ∷ (l ++ quote ∷ [])) (sym inner_is)
