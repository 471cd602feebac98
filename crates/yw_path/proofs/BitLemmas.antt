-- Sets of numbers, bit by bit.
use Rattle.std.proofs.Common.{◌≡◌, ◌≢◌, ℕ, ◌+◌, ◌*◌, ◌^◌, ◌/◌, ◌%◌, ◌<◌, ◌≤◌, ◌⊎◌, inl, inr, List, [], ◌++◌, length, get_or, set, replicate, take, drop, refl, sym, ap, ◌∙◌, subst, arith, get_or-set_same, get_or-set_other}
use Rattle.std.specs.Prelude.{bit_or, max}
use Rattle.std.specs.Int.{bit_at, w64}
use Rattle.std.proofs.lemmas.Bool.{cases_eq, cases_lt}
use Rattle.std.proofs.lemmas.List.{get_or-replicate, get_or_past, length-set, length-replicate, append-nil, drop_all, take_all}
use Rattle.std.proofs.lemmas.Nat.Bits.{bit_at-lt, bit_at-zero, bit_at_or, bit_at_set_other, bit_at_set_same}
use Rattle.yw_path.specs.Bits.{Adds, AddsOne, Has, words_for}

-- a number is 64 times its word and its place in it
same_number : (j k : ℕ) → j / 64 ≡ k / 64 → j % 64 ≡ k % 64 → j ≡ k
same_number j k q r = omega (arith, q, r)

-- where the word is the same, the same number is in both
pub has_word : (old new : List ℕ) (k : ℕ) → get_or old (k / 64) 0 ≡ get_or new (k / 64) 0 → Has old k → Has new k
has_word old new k e h = let P : ℕ → Type 0 = λ word. bit_at word (k % 64) ≡ 1 in subst P e h

-- ---- no number

pub no_bit : (word i : ℕ) → word ≡ 0 → bit_at word i ≡ 1 → ⊥
no_bit word i e h = let z : 0 ≡ 1 = sym (bit_at-zero i) ∙ ap (λ w. bit_at w i) (sym e) ∙ h in absurd (omega (arith, z))

pub has-nil : (k : ℕ) → Has [] k → ⊥
has-nil k h = no_bit 0 (k % 64) refl h

pub empty_word : (n i : ℕ) → let none : ℕ = 0 in get_or (replicate n none) i none ≡ none
empty_word n i = elim (cases_lt i n) [
  | inl lt ↦ get_or-replicate n i 0 0 lt
  | inr past ↦ get_or_past (replicate n 0) i 0 (omega (arith, past, length-replicate {A = ℕ} n 0))
]

pub has-empty : (n k : ℕ) → Has (replicate n 0) k → ⊥
has-empty n k h = no_bit (get_or (replicate n 0) (k / 64) 0) (k % 64) (empty_word n (k / 64)) h

-- ---- additions one behind the other

-- nothing is added
pub adds_none : (row : List ℕ) (P : ℕ → Type 0) → ((k : ℕ) → P k → Has row k) → Adds P row row
adds_none row P there = record { len = refl; only = λ k h. inl h; keeps = λ k h. h; all = there }

pub adds_join : (P Q R : ℕ → Type 0) (a b c : List ℕ) → ((k : ℕ) → P k → R k) → ((k : ℕ) → Q k → R k) → ((k : ℕ) → R k → P k ⊎ Q k) → Adds P a b → Adds Q b c → Adds R a c
adds_join P Q R a b c from_p from_q parts p q = record {
  len = q.len ∙ p.len;
  only = λ k h. elim (q.only k h) [
    | inl was ↦ elim (p.only k was) [ inl first ↦ inl first | inr added ↦ inr (from_p k added) ]
    | inr added ↦ inr (from_q k added)
  ];
  keeps = λ k h. q.keeps k (p.keeps k h);
  all = λ k h. elim (parts k h) [ inl x ↦ q.keeps k (p.all k x) | inr x ↦ q.all k x ];
}

pub adds_same : (P Q : ℕ → Type 0) (a b : List ℕ) → ((k : ℕ) → P k → Q k) → ((k : ℕ) → Q k → P k) → Adds P a b → Adds Q a b
adds_same P Q a b to from p = record {
  len = p.len;
  only = λ k h. elim (p.only k h) [ inl was ↦ inl was | inr added ↦ inr (to k added) ];
  keeps = p.keeps;
  all = λ k h. p.all k (from k h);
}

-- ---- one number more

module _ (row : List ℕ) (k : ℕ) (lt : k / 64 < length row) where
  abbrev before : ℕ
  before = get_or row (k / 64) 0

  abbrev with_bit : ℕ
  with_bit = bit_or before (1 * 2 ^ (k % 64) % 2 ^ 64)

  abbrev after : List ℕ
  after = set row (k / 64) with_bit

  there : (j : ℕ) → j / 64 ≡ k / 64 → get_or after (j / 64) 0 ≡ with_bit
  there j e = ap (λ w. get_or after w 0) e ∙ get_or-set_same row (k / 64) with_bit 0 lt

  below : k % 64 < 64
  below = omega arith

  same_bit : (j : ℕ) → j / 64 ≡ k / 64 → (j % 64 ≡ k % 64 → ⊥) → bit_at (get_or after (j / 64) 0) (j % 64) ≡ bit_at (get_or row (j / 64) 0) (j % 64)
  same_bit j e ne =
      ap (λ w. bit_at w (j % 64)) (there j e)
      ∙ bit_at_set_other w64 before (k % 64) below (j % 64) ne
      ∙ ap (λ w. bit_at (get_or row w 0) (j % 64)) (sym e)

  other_word : (j : ℕ) → (j / 64 ≡ k / 64 → ⊥) → get_or after (j / 64) 0 ≡ get_or row (j / 64) 0
  other_word j ne = get_or-set_other row (k / 64) (j / 64) with_bit 0 ne

  itself : (j : ℕ) → j ≡ k → Has after j
  itself j e =
      ap (λ w. bit_at w (j % 64)) (there j (ap (λ n. n / 64) e))
      ∙ ap (λ n. bit_at with_bit (n % 64)) e
      ∙ bit_at_set_same w64 before (k % 64) below

  only : (j : ℕ) → Has after j → Has row j ⊎ (j ≡ k)
  only j h = elim (cases_eq (j / 64) (k / 64)) [
    | inl e ↦ elim (cases_eq (j % 64) (k % 64)) [
      | inl f ↦ inr (same_number j k e f)
      | inr f ↦ inl (sym (same_bit j e f) ∙ h)
    ]
    | inr e ↦ inl (has_word after row j (other_word j e) h)
  ]

  keeps : (j : ℕ) → Has row j → Has after j
  keeps j h = elim (cases_eq (j / 64) (k / 64)) [
    | inl e ↦ elim (cases_eq (j % 64) (k % 64)) [
      | inl f ↦ itself j (same_number j k e f)
      | inr f ↦ same_bit j e f ∙ h
    ]
    | inr e ↦ has_word row after j (sym (other_word j e)) h
  ]

  pub inserted : AddsOne k row after
  inserted = record { len = length-set row (k / 64) with_bit; only = only; keeps = keeps; all = itself }

-- ---- the numbers of two sets

one_or : (a b : ℕ) → a < 2 → b < 2 → max a b ≡ 1 → (a ≡ 1) ⊎ (b ≡ 1)
one_or a b la lb e = elim (cases_eq a 1) [ inl one ↦ inl one | inr other ↦ inr (omega (arith, la, lb, e, other)) ]

-- each word of the one was joined by that of the other
pub joined : (old other new : List ℕ) → length new ≡ length old → ((i : ℕ) → get_or new i 0 ≡ bit_or (get_or old i 0) (get_or other i 0)) → Adds (Has other) old new
joined old other new len words = record {
  len = len;
  only = λ k h. one_or (bit_at (get_or old (k / 64) 0) (k % 64)) (bit_at (get_or other (k / 64) 0) (k % 64)) (bit_at-lt (get_or old (k / 64) 0) (k % 64)) (bit_at-lt (get_or other (k / 64) 0) (k % 64)) (sym (either k) ∙ h);
  keeps = λ k h. either k ∙ max_left (bit_at (get_or old (k / 64) 0) (k % 64)) (bit_at (get_or other (k / 64) 0) (k % 64)) h (bit_at-lt (get_or other (k / 64) 0) (k % 64));
  all = λ k h. either k ∙ max_right (bit_at (get_or old (k / 64) 0) (k % 64)) (bit_at (get_or other (k / 64) 0) (k % 64)) h (bit_at-lt (get_or old (k / 64) 0) (k % 64));
}
  where
    either : (k : ℕ) → bit_at (get_or new (k / 64) 0) (k % 64) ≡ max (bit_at (get_or old (k / 64) 0) (k % 64)) (bit_at (get_or other (k / 64) 0) (k % 64))
    either k = ap (λ w. bit_at w (k % 64)) (words (k / 64)) ∙ bit_at_or (get_or old (k / 64) 0) (get_or other (k / 64) 0) (k % 64)

    max_left : (x y : ℕ) → x ≡ 1 → y < 2 → max x y ≡ 1
    max_left x y e l = omega arith

    max_right : (x y : ℕ) → y ≡ 1 → x < 2 → max x y ≡ 1
    max_right x y e l = omega arith

-- the same, word by word as far as the words go
pub joined_words : (old other new : List ℕ) → length new ≡ length old → length other ≡ length old → ((i : ℕ) → i < length old → get_or new i 0 ≡ bit_or (get_or old i 0) (get_or other i 0)) → Adds (Has other) old new
joined_words old other new len others words = joined old other new len (λ i. elim (cases_lt i (length old)) [
  | inl lt ↦ words i lt
  | inr past ↦
      get_or_past new i 0 (omega (arith, past, len))
      ∙ ap (λ x. bit_or x 0) (sym (get_or_past old i 0 past))
      ∙ ap (bit_or (get_or old i 0)) (sym (get_or_past other i 0 (omega (arith, past, others))))
])

-- words that were written over all of others
pub written_whole : (n : ℕ) (new items : List ℕ) → length new ≡ length items → length items ≤ n → take n (new ++ drop (length new) items) ≡ new
written_whole n new items e le =
    ap (λ xs. take n (new ++ xs)) (drop_all (length new) items (omega (arith, e)))
    ∙ ap (take n) (append-nil new)
    ∙ take_all n new (omega (arith, e, le))
