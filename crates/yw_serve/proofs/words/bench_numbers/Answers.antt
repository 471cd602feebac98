use Rattle.std.proofs.Common.{◌≡◌, ℕ, List, [], ◌∷◌, map, string_bytes, sym, ap, ◌∙◌, subst, arith}
use Rattle.std.specs.Prelude.{codes}
use Rattle.yw_serve.proofs.WordsLemmas.{same_text, second, some_as, third, three_words}
use Rattle.yw_serve.specs.Words.{IsNumberTo, greatest_count, greatest_start}
use Rattle.yw_serve.proofs.words.bench_numbers.Goals as goal

pub returns-then-eq-clause-some : goal.returns-then-eq-clause-some
returns-then-eq-clause-some c = some_as c.both_numbers.result _ _ c.both_numbers.ensures.some (λ both is.
    let u = c.word-item.result in
    let v = c.start-item.result in
    let w = c.count-item.result in
    let words : c.args.words.now ≡ u ∷ v ∷ w ∷ [] = three_words c.args.words.now u v w (omega arith) c.word-item.is c.start-item.is c.count-item.is in
    let bench : c.as_str.result.now ≡ codes "bench" = same_text c.eq.result _ _ c.eq.ensures c.if-eq.true in
    record {
      first = string_bytes v;
      second = string_bytes w;
      split = ap (map string_bytes) words ∙ ap (λ (l : List ℕ). l ∷ string_bytes v ∷ string_bytes w ∷ []) (sym c.as_str.ensures.value ∙ bench);
      start_is = subst (λ (t : List ℕ). IsNumberTo greatest_start t both.0) c.as_str-then-eq.ensures.value is.0;
      count_is = subst (λ (t : List ℕ). IsNumberTo greatest_count t both.1) c.as_str-then-eq-2.ensures.value is.1;
    })

pub returns-then-eq-clause-none : goal.returns-then-eq-clause-none
returns-then-eq-clause-none c = λ none start count is.
    let u = c.word-item.result in
    let v = c.start-item.result in
    let w = c.count-item.result in
    let words : c.args.words.now ≡ u ∷ v ∷ w ∷ [] = three_words c.args.words.now u v w (omega arith) c.word-item.is c.start-item.is c.count-item.is in
    let split = sym (ap (map string_bytes) words) ∙ is.split in
    let first : string_bytes v ≡ is.first = second (string_bytes u) (string_bytes v) (string_bytes w) (codes "bench") is.first is.second split in
    let last : string_bytes w ≡ is.second = third (string_bytes u) (string_bytes v) (string_bytes w) (codes "bench") is.first is.second split in
    c.both_numbers.ensures.none none start count
    (subst (λ (t : List ℕ). IsNumberTo greatest_start t start) (sym (c.as_str-then-eq.ensures.value ∙ first)) is.start_is)
    (subst (λ (t : List ℕ). IsNumberTo greatest_count t count) (sym (c.as_str-then-eq-2.ensures.value ∙ last)) is.count_is)
