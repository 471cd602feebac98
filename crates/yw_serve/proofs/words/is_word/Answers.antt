use Rattle.std.proofs.Common.{◌≡◌, ◌∷◌, [], ℕ, List, map, string_bytes, sym, ap, ◌∙◌, arith}
use Rattle.std.proofs.lemmas.Slice.Eq.{bytes_eq-Decides}
use Rattle.yw_serve.proofs.WordsLemmas.{one_word, same_text}
use Rattle.yw_serve.proofs.words.is_word.Goals as goal

first_is : (x y : List ℕ) → x ∷ [] ≡ y ∷ [] → x ≡ y
first_is x y e = cc

pub returns-in-len1 : goal.returns-in-len1
returns-in-len1 c =
    let w = c.word-item.result in
    let words = one_word c.args.words.now w (omega arith) c.word-item.is in (
      λ holds. ap (map string_bytes) words ∙ ap (λ (l : List ℕ). l ∷ []) (sym c.as_str.ensures.value ∙ same_text c.eq.result _ _ c.eq.ensures holds),
      λ check. c.eq.ensures ∙ (bytes_eq-Decides _ _).1 (c.as_str.ensures.value ∙ first_is _ _ (sym (ap (map string_bytes) words) ∙ check)),
    )
