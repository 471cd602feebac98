-- The bytes of lists tell where they end, where those of what they list do.
use Rattle.std.proofs.Common.{◌≡◌, ◌&&◌, ◌==◌, ◌<◌, ◌≤◌, ◌+◌, ℕ, List, [], ◌∷◌, ◌++◌, length, Bool, true, nat_lt, nat_le, refl, sym, ap, ◌∙◌, arith, take, drop, get_or, append_assoc, length-append, length-take, length-drop, take-append-drop}
use Rattle.std.specs.List.{flat_map, list_all}
use Rattle.std.proofs.lemmas.Bool.{eqb-true, eq-eqb, leb-true, lt-ltb, ltb-true}
use Rattle.std.proofs.lemmas.Grind.{flat_map-append}
use Rattle.std.proofs.lemmas.List.{append-nil}
use Rattle.std.proofs.lemmas.List.Folds.{list_all-append}
use Rattle.yw_base.specs.Identity.{is_identity, is_number, most_numbers, number_end}
use Rattle.yw_codec.specs.FieldLaws.{and_left, and_right, both_true, none_of_nothing, u32_apart, u64_apart}
use Rattle.yw_codec.specs.Fields.{is_u32, u32_bytes, is_u64, u64_bytes, u64_end, is_list, list_bytes, is_short_list, short_list_bytes, identity_bytes}
use Rattle.yw_codec.specs.Forms.{Stands, NoneStands, AreApart, are_counted}

-- ---- as many of a kind as others

-- as many of a kind as others at one front are the same
pub same_items : {X : Type 0} (p : X → Bool) (f : X → List ℕ) → AreApart p f → (xs ys : List X) (a b : List ℕ) → length xs ≡ length ys
    → list_all p xs ≡ true → list_all p ys ≡ true → flat_map f xs ++ a ≡ flat_map f ys ++ b → (xs ≡ ys) × (a ≡ b)
same_items p f apart [] [] a b size ps qs e = (refl, e)
same_items p f apart [] (y ∷ ys) a b size ps qs e = absurd (omega arith)
same_items p f apart (x ∷ xs) [] a b size ps qs e = absurd (omega arith)
same_items p f apart (x ∷ xs) (y ∷ ys) a b size ps qs e =
    let first = apart x y (f x ++ (flat_map f xs ++ a)) (flat_map f xs ++ a) (flat_map f ys ++ b)
    (record { in_range = and_left (p x) (list_all p xs) ps; split = refl })
    (record { in_range = and_left (p y) (list_all p ys) qs; split = sym (append_assoc (f x) (flat_map f xs) a) ∙ e ∙ append_assoc (f y) (flat_map f ys) b }) in
    let others = same_items p f apart xs ys a b (omega arith) (and_right (p x) (list_all p xs) ps) (and_right (p y) (list_all p ys) qs) first.1 in
    (both x y xs ys first.0 others.0, others.1)
  where
    both : {X : Type 0} (x y : X) (xs ys : List X) → x ≡ y → xs ≡ ys → x ∷ xs ≡ y ∷ ys
    both x y xs ys e d = cc

pub counted : {X : Type 0} (p : X → Bool) (count : ℕ) (xs : List X) → are_counted p count xs ≡ true → length xs ≡ count
counted p count xs is = eqb-true (length xs) count (and_right (list_all p xs) (length xs == count) is)

pub each_counted : {X : Type 0} (p : X → Bool) (count : ℕ) (xs : List X) → are_counted p count xs ≡ true → list_all p xs ≡ true
each_counted p count xs is = and_left (list_all p xs) (length xs == count) is

pub are_so_many : {X : Type 0} (p : X → Bool) (count : ℕ) (xs : List X) → list_all p xs ≡ true → length xs ≡ count → are_counted p count xs ≡ true
are_so_many p count xs each size = both_true (list_all p xs) (length xs == count) each (eq-eqb (length xs) count size)

-- none are read at first
pub none_yet : {X : Type 0} (p : X → Bool) (f : X → List ℕ) (whole : List ℕ) → Stands (are_counted p 0) (flat_map f) whole [] whole
none_yet p f whole = record { in_range = refl; split = refl }

-- one more is read behind those that were
pub one_more : {X : Type 0} (p : X → Bool) (f : X → List ℕ) (whole mid rest : List ℕ) (xs : List X) (count : ℕ) (x : X)
    → Stands (are_counted p count) (flat_map f) whole xs mid → Stands p f mid x rest → Stands (are_counted p (count + 1)) (flat_map f) whole (xs ++ x ∷ []) rest
one_more p f whole mid rest xs count x many one = record {
  in_range = are_so_many p (count + 1) (xs ++ x ∷ [])
      (list_all-append p xs (x ∷ []) ∙ both_true (list_all p xs) (list_all p (x ∷ [])) (each_counted p count xs many.in_range) (both_true (p x) true one.in_range refl))
      (omega (arith, length-append xs (x ∷ []), counted p count xs many.in_range));
  split = many.split ∙ ap (λ (l : List ℕ). flat_map f xs ++ l) one.split ∙ sym (append_assoc (flat_map f xs) (f x) rest)
      ∙ ap (λ (l : List ℕ). l ++ rest) (sym (flat_map-append f xs (x ∷ []) ∙ ap (λ (l : List ℕ). flat_map f xs ++ l) (append-nil (f x))));
}

-- so many don't stand where none stands behind fewer
pub none_further : {X : Type 0} (p : X → Bool) (f : X → List ℕ) (whole mid : List ℕ) (xs : List X) (count all : ℕ)
    → AreApart p f → Stands (are_counted p count) (flat_map f) whole xs mid → count < all → NoneStands p f mid → NoneStands (are_counted p all) (flat_map f) whole
none_further {X = X} p f whole mid xs count all apart many less none ys rest s = found (drop count ys) refl
  where
    size : length ys ≡ all
    size = counted p all ys s.in_range

    parts : (list_all p (take count ys) && list_all p (drop count ys)) ≡ true
    parts = sym (list_all-append p (take count ys) (drop count ys)) ∙ ap (list_all p) (take-append-drop count ys) ∙ each_counted p all ys s.in_range

    behind : mid ≡ flat_map f (drop count ys) ++ rest
    behind = (same_items p f apart xs (take count ys) mid (flat_map f (drop count ys) ++ rest)
        (omega (arith, counted p count xs many.in_range, length-take count ys, size, less))
        (each_counted p count xs many.in_range) (and_left (list_all p (take count ys)) (list_all p (drop count ys)) parts)
        (sym many.split ∙ s.split
        ∙ ap (λ (l : List ℕ). l ++ rest) (ap (flat_map f) (sym (take-append-drop count ys)) ∙ flat_map-append f (take count ys) (drop count ys))
        ∙ append_assoc (flat_map f (take count ys)) (flat_map f (drop count ys)) rest)).1

    found : (left : List X) → left ≡ drop count ys → ⊥
    found [] e = omega (arith, ap length e, length-drop count ys, size, less)
    found (y ∷ more) e = none y (flat_map f more ++ rest) (record {
      in_range = and_left (p y) (list_all p more) (ap (list_all p) e ∙ and_right (list_all p (take count ys)) (list_all p (drop count ys)) parts);
      split = behind ∙ ap (λ (l : List X). flat_map f l ++ rest) (sym e) ∙ append_assoc (f y) (flat_map f more) rest;
    })

-- ---- a list behind its count of four bytes

pub list_front : {X : Type 0} (p : X → Bool) (f : X → List ℕ) (whole rest : List ℕ) (xs : List X)
    → Stands (is_list p) (list_bytes f) whole xs rest → Stands is_u32 u32_bytes whole (length xs) (flat_map f xs ++ rest)
list_front p f whole rest xs s = record {
  in_range = and_right (list_all p xs) (is_u32 (length xs)) s.in_range;
  split = s.split ∙ append_assoc (u32_bytes (length xs)) (flat_map f xs) rest;
}

pub list_behind : {X : Type 0} (p : X → Bool) (f : X → List ℕ) (whole mid rest : List ℕ) (count : ℕ) (xs : List X)
    → Stands is_u32 u32_bytes whole count mid → Stands (is_list p) (list_bytes f) whole xs rest → Stands (are_counted p count) (flat_map f) mid xs rest
list_behind p f whole mid rest count xs size s =
    let same = u32_apart (length xs) count whole (flat_map f xs ++ rest) mid (list_front p f whole rest xs s) size in
    record {
      in_range = are_so_many p count xs (and_left (list_all p xs) (is_u32 (length xs)) s.in_range) same.0;
      split = sym same.1;
    }

pub list_read : {X : Type 0} (p : X → Bool) (f : X → List ℕ) (whole mid rest : List ℕ) (count : ℕ) (xs : List X)
    → Stands is_u32 u32_bytes whole count mid → Stands (are_counted p count) (flat_map f) mid xs rest → Stands (is_list p) (list_bytes f) whole xs rest
list_read p f whole mid rest count xs size many =
    let long = counted p count xs many.in_range in
    record {
      in_range = both_true (list_all p xs) (is_u32 (length xs)) (each_counted p count xs many.in_range) (ap is_u32 long ∙ size.in_range);
      split = size.split ∙ ap (λ (l : List ℕ). u32_bytes count ++ l) many.split ∙ sym (append_assoc (u32_bytes count) (flat_map f xs) rest)
          ∙ ap (λ (n : ℕ). (u32_bytes n ++ flat_map f xs) ++ rest) (sym long);
    }

pub list_apart : {X : Type 0} (p : X → Bool) (f : X → List ℕ) → AreApart p f → AreApart (is_list p) (list_bytes f)
list_apart p f apart xs ys whole a b sx sy =
    let size = u32_apart (length xs) (length ys) whole (flat_map f xs ++ a) (flat_map f ys ++ b) (list_front p f whole a xs sx) (list_front p f whole b ys sy) in
    same_items p f apart xs ys a b size.0 (and_left (list_all p xs) (is_u32 (length xs)) sx.in_range) (and_left (list_all p ys) (is_u32 (length ys)) sy.in_range) size.1

-- ---- a list behind its count of one byte

pub short_list_apart : {X : Type 0} (p : X → Bool) (f : X → List ℕ) → AreApart p f → AreApart (is_short_list p) (short_list_bytes f)
short_list_apart p f apart xs ys whole a b sx sy =
    let e : (length xs ∷ flat_map f xs) ++ a ≡ (length ys ∷ flat_map f ys) ++ b = sym sx.split ∙ sy.split in
    same_items p f apart xs ys a b (ap (λ (l : List ℕ). get_or l 0 0) e) (and_left (list_all p xs) (nat_lt (length xs) 256) sx.in_range)
    (and_left (list_all p ys) (nat_lt (length ys) 256) sy.in_range) (ap (drop 1) e)

pub short_list_read : {X : Type 0} (p : X → Bool) (f : X → List ℕ) (whole mid rest : List ℕ) (count : ℕ) (xs : List X) → whole ≡ count ∷ mid → count < 256
    → Stands (are_counted p count) (flat_map f) mid xs rest → Stands (is_short_list p) (short_list_bytes f) whole xs rest
short_list_read p f whole mid rest count xs split small many =
    let long = counted p count xs many.in_range in
    record {
      in_range = both_true (list_all p xs) (nat_lt (length xs) 256) (each_counted p count xs many.in_range) (lt-ltb (length xs) 256 (omega arith));
      split = split ∙ ap (λ (l : List ℕ). count ∷ l) many.split ∙ ap (λ (n : ℕ). n ∷ (flat_map f xs ++ rest)) (sym long);
    }

pub no_short_list : {X : Type 0} (p : X → Bool) (f : X → List ℕ) (whole mid : List ℕ) (count : ℕ) → whole ≡ count ∷ mid
    → NoneStands (are_counted p count) (flat_map f) mid → NoneStands (is_short_list p) (short_list_bytes f) whole
no_short_list p f whole mid count split none xs rest s =
    let e : count ∷ mid ≡ length xs ∷ (flat_map f xs ++ rest) = sym split ∙ s.split in
    none xs rest (record {
      in_range = are_so_many p count xs (and_left (list_all p xs) (nat_lt (length xs) 256) s.in_range) (sym (ap (λ (l : List ℕ). get_or l 0 0) e));
      split = ap (drop 1) e;
    })

pub no_short_list_of_nothing : {X : Type 0} (p : X → Bool) (f : X → List ℕ) (whole : List ℕ) → whole ≡ [] → NoneStands (is_short_list p) (short_list_bytes f) whole
no_short_list_of_nothing p f whole empty = none_of_nothing (is_short_list p) (short_list_bytes f) whole (λ xs. omega arith) empty

-- ---- an identity is such a list of numbers

number_u64 : (n : ℕ) → is_number n ≡ true → is_u64 n ≡ true
number_u64 n is = lt-ltb n u64_end (omega (arith, ltb-true n number_end (and_right (nat_lt 0 n) (nat_lt n number_end) is)))

numbers_u64 : (ns : List ℕ) → list_all is_number ns ≡ true → list_all is_u64 ns ≡ true
numbers_u64 [] all = refl
numbers_u64 (n ∷ ns) all =
    both_true (is_u64 n) (list_all is_u64 ns) (number_u64 n (and_left (is_number n) (list_all is_number ns) all)) (numbers_u64 ns (and_right (is_number n) (list_all is_number ns) all))

pub identity_list : (ns : List ℕ) → is_identity ns ≡ true → is_short_list is_u64 ns ≡ true
identity_list ns is =
    let few : (nat_lt 0 (length ns) && nat_le (length ns) most_numbers) ≡ true = and_left (nat_lt 0 (length ns) && nat_le (length ns) most_numbers) (list_all is_number ns) is in
    both_true (list_all is_u64 ns) (nat_lt (length ns) 256) (numbers_u64 ns (and_right (nat_lt 0 (length ns) && nat_le (length ns) most_numbers) (list_all is_number ns) is))
    (lt-ltb (length ns) 256 (omega (arith, leb-true (length ns) most_numbers (and_right (nat_lt 0 (length ns)) (nat_le (length ns) most_numbers) few))))

pub identity_stands : (ns whole rest : List ℕ) → Stands is_identity identity_bytes whole ns rest → Stands (is_short_list is_u64) (short_list_bytes u64_bytes) whole ns rest
identity_stands ns whole rest s = record { in_range = identity_list ns s.in_range; split = s.split }

pub identity_apart : AreApart is_identity identity_bytes
identity_apart m n whole x y sm sn = short_list_apart is_u64 u64_bytes u64_apart m n whole x y (identity_stands m whole x sm) (identity_stands n whole y sn)

pub no_identity : (whole : List ℕ) → NoneStands (is_short_list is_u64) (short_list_bytes u64_bytes) whole → NoneStands is_identity identity_bytes whole
no_identity whole none ns rest s = none ns rest (identity_stands ns whole rest s)

-- the one list that stands is no identity's
pub not_identity : (whole mid ns : List ℕ) → Stands (is_short_list is_u64) (short_list_bytes u64_bytes) whole ns mid → (is_identity ns ≡ true → ⊥) → NoneStands is_identity identity_bytes whole
not_identity whole mid ns read wrong ms rest s =
    let same = short_list_apart is_u64 u64_bytes u64_apart ms ns whole rest mid (identity_stands ms whole rest s) read in
    wrong (sym (ap is_identity same.0) ∙ s.in_range)
