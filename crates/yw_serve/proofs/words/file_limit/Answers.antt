use Rattle.std.proofs.Common.{◌≡◌, ℕ, List, [], ◌∷◌, map, string_bytes, inl, inr, ⊎_elim, refl, sym, ap, ◌∙◌, subst, arith}
use Rattle.std.specs.Prelude.{codes}
use Rattle.yw_serve.specs.Words.{greatest_limit, IsLimit}
use Rattle.yw_serve.proofs.WordsLemmas.{not_one, one_word, same_text, some_as, third, three_words}
use Rattle.yw_serve.proofs.words.file_limit.Goals as goal

pub returns-then-eq-clause-some : goal.returns-then-eq-clause-some
returns-then-eq-clause-some c =
    let w = c.word-item.result in
    let words : c.args.words.now ≡ w ∷ [] = one_word c.args.words.now w (omega arith) c.word-item.is in
    let run : c.as_str.result.now ≡ codes "run" = same_text c.eq.result _ _ c.eq.ensures c.if-eq.true in
    inl (ap (map string_bytes) words ∙ ap (λ (l : List ℕ). l ∷ []) (sym c.as_str.ensures.value ∙ run), refl)

pub returns-then-eq-3-clause-some : goal.returns-then-eq-3-clause-some
returns-then-eq-3-clause-some c = some_as c.limit_in.result _ _ c.limit_in.ensures.some (λ n is.
    let u = c.word-item-then-words-lt4.result in
    let v = c.option-item.result in
    let w = c.text-item.result in
    let words : c.args.words.now ≡ u ∷ v ∷ w ∷ [] = three_words c.args.words.now u v w (omega arith) c.word-item-then-words-lt4.is c.option-item.is c.text-item.is in
    let run : c.as_str-in-len3.result.now ≡ codes "run" = same_text c.eq-in-len3.result _ _ c.eq-in-len3.ensures c.if-eq-2.true in
    let limit : c.as_str-then-eq-2.result.now ≡ codes "--limit" = same_text c.eq-then-eq-2.result _ _ c.eq-then-eq-2.ensures c.if-eq-3.true in
    inr (
      string_bytes w,
      ap (map string_bytes) words ∙ ap (λ (l : List ℕ). l ∷ string_bytes v ∷ string_bytes w ∷ []) (sym c.as_str-in-len3.ensures.value ∙ run) ∙ ap (λ (l : List ℕ). codes "run" ∷ l ∷ string_bytes w ∷ []) (sym c.as_str-then-eq-2.ensures.value ∙ limit),
      subst (λ (t : List ℕ). IsLimit t n) c.as_str-then-eq-3.ensures.value is,
    ))

pub returns-then-eq-3-clause-none : goal.returns-then-eq-3-clause-none
returns-then-eq-3-clause-none c = λ none limit is.
    let u = c.word-item-then-words-lt4.result in
    let v = c.option-item.result in
    let w = c.text-item.result in
    let words : c.args.words.now ≡ u ∷ v ∷ w ∷ [] = three_words c.args.words.now u v w (omega arith) c.word-item-then-words-lt4.is c.option-item.is c.text-item.is in
    ⊎_elim
    (λ (one : (map string_bytes c.args.words.now ≡ codes "run" ∷ []) × (limit ≡ greatest_limit)). not_one (string_bytes u) (string_bytes v) (string_bytes w) (codes "run") (sym (ap (map string_bytes) words) ∙ one.0))
    (λ (three : (text : List ℕ) × (map string_bytes c.args.words.now ≡ codes "run" ∷ codes "--limit" ∷ text ∷ []) × IsLimit text limit).
    let text : string_bytes w ≡ three.0 = third (string_bytes u) (string_bytes v) (string_bytes w) (codes "run") (codes "--limit") three.0 (sym (ap (map string_bytes) words) ∙ three.1) in
    c.limit_in.ensures.none none limit (subst (λ (t : List ℕ). IsLimit t limit) (sym (c.as_str-then-eq-3.ensures.value ∙ text)) three.2))
    is
