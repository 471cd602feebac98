-- The words of a run give one limit, and judge no text.
use Rattle.std.proofs.Common.{◌≡◌, ℕ, List, [], ◌∷◌, length, get_or, Bool, true, String, Global, Option, None, Some, inl, inr, sym, ap, ◌∙◌, arith}
use Rattle.std.specs.Prelude.{IfSome, codes, map, string_bytes}
use Rattle.std.specs.Str.{bytes_eq}
use Rattle.std.proofs.lemmas.Slice.Eq.{bytes_eq-Decides}
use Rattle.std.specs.Str.Parse.{digits_value}
use Rattle.yw_serve.specs.Words.{IsBench, IsCheck, IsJudging, IsProve, IsRun}

pub one_word : (xs : List (String Global)) (w : String Global) → length xs ≡ 1 → w ≡ get_or xs 0 w → xs ≡ w ∷ []
one_word [] w e h = absurd (omega arith)
one_word (x ∷ []) w e h = ap (λ y. y ∷ []) (sym h)
one_word (x ∷ y ∷ xs) w e h = absurd (omega arith)

pub three_words : (xs : List (String Global)) (u v w : String Global) → length xs ≡ 3 → u ≡ get_or xs 0 u → v ≡ get_or xs 1 v → w ≡ get_or xs 2 w → xs ≡ u ∷ v ∷ w ∷ []
three_words [] u v w e a b c = absurd (omega arith)
three_words (x ∷ []) u v w e a b c = absurd (omega arith)
three_words (x ∷ y ∷ []) u v w e a b c = absurd (omega arith)
three_words (x ∷ y ∷ z ∷ []) u v w e a b c = ap (λ l. l ∷ y ∷ z ∷ []) (sym a) ∙ ap (λ l. u ∷ l ∷ z ∷ []) (sym b) ∙ ap (λ l. u ∷ v ∷ l ∷ []) (sym c)
three_words (x ∷ y ∷ z ∷ t ∷ xs) u v w e a b c = absurd (omega arith)

pub some_as : {A : Type 0} (o : Option A) (P Q : A → Type 0) → IfSome o P → ((a : A) → P a → Q a) → IfSome o Q
some_as None P Q h f = tt
some_as (Some a) P Q h f = f a h

pub same_text : (b : Bool) (xs ys : List ℕ) → b ≡ bytes_eq xs ys → b ≡ true → xs ≡ ys
same_text b xs ys e t = (bytes_eq-Decides xs ys).0 (sym e ∙ t)

pub second : (x y z a b c : List ℕ) → x ∷ y ∷ z ∷ [] ≡ a ∷ b ∷ c ∷ [] → y ≡ b
second x y z a b c e = cc

pub third : (x y z a b c : List ℕ) → x ∷ y ∷ z ∷ [] ≡ a ∷ b ∷ c ∷ [] → z ≡ c
third x y z a b c e = cc

pub not_one : (x y z a : List ℕ) → x ∷ y ∷ z ∷ [] ≡ a ∷ [] → ⊥
not_one x y z a e = cc

pub one_limit : (words : List (String Global)) (m n : ℕ) → IsRun words m → IsRun words n → m ≡ n
one_limit words m n first second =
    elim first [
      | inl alone ↦ elim second [
        | inl again ↦ alone.1 ∙ sym again.1
        | inr given ↦ absurd (not_one _ _ _ _ (sym given.1 ∙ alone.0))
      ]
      | inr given ↦ elim second [
        | inl alone ↦ absurd (not_one _ _ _ _ (sym given.1 ∙ alone.0))
        | inr again ↦ sym given.2.spelled.value ∙ ap (digits_value 10) (third _ _ _ _ _ _ (sym given.1 ∙ again.1)) ∙ again.2.spelled.value
      ]
    ]

run_is : (xs : List (List ℕ)) → xs ≡ codes "run" ∷ [] → xs ≡ codes "check" ∷ [] → ⊥
run_is xs e f = cc

run_is_no_proof : (xs : List (List ℕ)) → xs ≡ codes "run" ∷ [] → xs ≡ codes "prove" ∷ [] → ⊥
run_is_no_proof xs e f = cc

longer_is : (xs : List (List ℕ)) (word text : List ℕ) → xs ≡ codes "run" ∷ codes "--limit" ∷ text ∷ [] → xs ≡ word ∷ [] → ⊥
longer_is xs word text e f = cc

no_check : (words : List (String Global)) (limit : ℕ) → IsRun words limit → IsCheck words → ⊥
no_check words limit (inl alone) check = run_is (map string_bytes words) alone.0 check
no_check words limit (inr given) check = longer_is (map string_bytes words) (codes "check") given.0 given.1 check

no_proof : (words : List (String Global)) (limit : ℕ) → IsRun words limit → IsProve words → ⊥
no_proof words limit (inl alone) prove = run_is_no_proof (map string_bytes words) alone.0 prove
no_proof words limit (inr given) prove = longer_is (map string_bytes words) (codes "prove") given.0 given.1 prove

pub not_both : (words : List (String Global)) (limit : ℕ) → IsRun words limit → IsJudging words → ⊥
not_both words limit run (inl check) = no_check words limit run check
not_both words limit run (inr prove) = no_proof words limit run prove

other_words : (xs : List (List ℕ)) (a b c d : List ℕ) → xs ≡ codes "run" ∷ a ∷ b ∷ [] → xs ≡ codes "bench" ∷ c ∷ d ∷ [] → ⊥
other_words xs a b c d e f = cc

pub run_no_bench : (words : List (String Global)) (limit start count : ℕ) → IsRun words limit → IsBench words start count → ⊥
run_no_bench words limit start count (inl alone) bench = not_one _ _ _ _ (sym bench.split ∙ alone.0)
run_no_bench words limit start count (inr given) bench = other_words (map string_bytes words) (codes "--limit") given.0 bench.first bench.second given.1 bench.split

pub judging_no_bench : (words : List (String Global)) (start count : ℕ) → IsJudging words → IsBench words start count → ⊥
judging_no_bench words start count (inl check) bench = not_one _ _ _ _ (sym bench.split ∙ check)
judging_no_bench words start count (inr prove) bench = not_one _ _ _ _ (sym bench.split ∙ prove)

pub one_bench : (words : List (String Global)) (m n start count : ℕ) → IsBench words m n → IsBench words start count → (m ≡ start) × (n ≡ count)
one_bench words m n start count a b =
    let split = sym a.split ∙ b.split in
    let first : a.first ≡ b.first = second (codes "bench") a.first a.second (codes "bench") b.first b.second split in
    let last : a.second ≡ b.second = third (codes "bench") a.first a.second (codes "bench") b.first b.second split in (
      sym a.start_is.spelled.value ∙ ap (digits_value 10) first ∙ b.start_is.spelled.value,
      sym a.count_is.spelled.value ∙ ap (digits_value 10) last ∙ b.count_is.spelled.value,
    )
