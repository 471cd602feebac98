-- What the first bytes of a file say of it.
use Rattle.std.proofs.Common.{◌≡◌, ◌==◌, ◌&&◌, ℕ, ◌+◌, ◌≤◌, ◌<◌, nat_le, nat_lt, List, length, take, drop, get_or, Bool, true, false, if◌then◌else◌, Option, None, Some, Result, Ok, Err, refl, sym, ap, ◌∙◌, subst, arith, rules, length-take}
use Rattle.std.proofs.Math.Dec.{eqb_refl}
use Rattle.std.specs.Prelude.{T}
use Rattle.std.proofs.lemmas.Bool.{eqb-true, false_from_ne_true, leb-true, lt-ltb, ltb-true}
use Rattle.std.proofs.lemmas.List.{take-take, drop-take, get_or-take}
use Rattle.std.specs.Int.{w64, from_be_bytes}
use Rattle.std.specs.Str.{bytes_eq}
use Rattle.yw_outside.specs.declared.desk.File.{File}
use Rattle.yw_outside.specs.declared.desk.File.TheVariants.{A, B}
use Rattle.yw_outside.specs.declared.image.Image.{Image}
use Rattle.yw_journal.specs.Files.{choice, is_live, header_damage, higher, higher_unless, magic, magic_of, generation_of, count_of, snapshot_size_of, greatest}
use Rattle.yw_journal.specs.FileLaws.{damage}
use Rattle.yw_snapshot.specs.Heads.{HigherIs, IsChoice, IsHeadOf, IsHeadRead}
use Rattle.yw_snapshot.specs.declared.choosing.Chosen.{Chosen}
use Rattle.yw_snapshot.specs.declared.header.Head.{Head}

-- a part of the front
front_part : (a n k : ℕ) (file : List ℕ) → n ≤ k → take n (drop a (take (a + k) file)) ≡ take n (drop a file)
front_part a n k file le = ap (take n) (drop-take a k file) ∙ take-take n k (drop a file) le

front_size : (file : List ℕ) → 30 ≤ length file → length (take 30 file) ≡ 30
front_size file long = omega (arith, length-take 30 file)

front_first : (file : List ℕ) → get_or (take 30 file) 0 0 ≡ get_or file 0 0
front_first file = get_or-take 30 file 0 0 (omega arith)

front_magic : (file : List ℕ) → magic_of (take 30 file) ≡ magic_of file
front_magic file = front_part 1 4 29 file (omega arith)

pub front_generation : (file : List ℕ) → generation_of (take 30 file) ≡ generation_of file
front_generation file = ap (from_be_bytes w64) (front_part 5 8 25 file (omega arith))

pub front_count : (file : List ℕ) → count_of (take 30 file) ≡ count_of file
front_count file = ap (from_be_bytes w64) (front_part 13 8 17 file (omega arith))

pub front_snapshot : (file : List ℕ) → snapshot_size_of (take 30 file) ≡ snapshot_size_of file
front_snapshot file = ap (from_be_bytes w64) (front_part 21 8 9 file (omega arith))

and_left : (p q : Bool) → (p && q) ≡ true → p ≡ true
and_left true q e = refl
and_left false q e = cc

and_right : (p q : Bool) → (p && q) ≡ true → q ≡ true
and_right true q e = e
and_right false q e = cc

pub live_long : (file : List ℕ) → is_live file ≡ true → 30 ≤ length file
live_long file live = leb-true 30 (length file) (and_left (nat_le 30 (length file)) (get_or file 0 0 == 1) live)

pub live_open : (file : List ℕ) → is_live file ≡ true → get_or file 0 0 ≡ 1
live_open file live = eqb-true (get_or file 0 0) 1 (and_right (nat_le 30 (length file)) (get_or file 0 0 == 1) live)

front_live : (file : List ℕ) → 30 ≤ length file → is_live (take 30 file) ≡ is_live file
front_live file long = let e = front_size file long in let f = front_first file in let g : nat_le 30 (length file) ≡ true = search (rules, arith) in cc

-- what a header shows by itself, by its fields
abbrev shown : Bool → List ℕ → ℕ → ℕ → Option ℕ
shown live m generation count = damage live (bytes_eq m magic) (nat_le 1 generation && nat_le generation greatest) (nat_le count greatest)

pub front_damage : (file : List ℕ) → 30 ≤ length file → header_damage (take 30 file) ≡ header_damage file
front_damage file long =
    ap (λ (b : Bool). shown b (magic_of (take 30 file)) (generation_of (take 30 file)) (count_of (take 30 file))) (front_live file long)
    ∙ ap (λ (m : List ℕ). shown (is_live file) m (generation_of (take 30 file)) (count_of (take 30 file))) (front_magic file)
    ∙ ap (λ (n : ℕ). shown (is_live file) (magic_of file) n (count_of (take 30 file))) (front_generation file)
    ∙ ap (λ (n : ℕ). shown (is_live file) (magic_of file) (generation_of file) n) (front_count file)

pub fault_is : (file : List ℕ) (o : Option Head) (head : Head) (found : Option ℕ) → o ≡ Some head → IsHeadRead file o → found ≡ header_damage head.bytes → found ≡ header_damage file
fault_is file (Some h) head found is read e = e ∙ ap (λ (x : Head). header_damage x.bytes) (sym (one h head is)) ∙ ap header_damage read.bytes ∙ front_damage file (live_long file read.live)
  where
    one : (h head : Head) → Some h ≡ Some head → h ≡ head
    one h head e = cc
fault_is file None head found is read e = absurd (none is)
  where
    none : None ≡ Some head → ⊥
    none e = cc

head_of : (file : List ℕ) (o : Option Head) (head : Head) → o ≡ Some head → IsHeadRead file o → IsHeadOf file head
head_of file o head is read = let F : Option Head → Type 0 = IsHeadRead file in subst F is read

generation_read : (file : List ℕ) (head : Head) (n : ℕ) → IsHeadOf file head → n ≡ generation_of head.bytes → n ≡ generation_of file
generation_read file head n read e = e ∙ ap generation_of read.bytes ∙ front_generation file

-- what `higher` says of two live files, by its tests
abbrev told : Bool → Bool → Bool → Bool → Result (Option File) (File × ℕ)
told p q same below = if p then if q then (if same then Err (B, 5) else if below then Ok (Some A) else Ok (Some B)) else Ok (Some A) else if q then Ok (Some B) else Ok None

higher_is : (i : Image) (same below : Bool) → is_live i.a ≡ true → is_live i.b ≡ true → (generation_of i.a == generation_of i.b) ≡ same → nat_lt (generation_of i.b) (generation_of i.a) ≡ below
    → higher i.a i.b ≡ told true true same below
higher_is i same below live_a live_b e d =
    ap (λ (x : Bool). told x (is_live i.b) (generation_of i.a == generation_of i.b) (nat_lt (generation_of i.b) (generation_of i.a))) live_a
    ∙ ap (λ (x : Bool). told true x (generation_of i.a == generation_of i.b) (nat_lt (generation_of i.b) (generation_of i.a))) live_b
    ∙ ap (λ (x : Bool). told true true x (nat_lt (generation_of i.b) (generation_of i.a))) e
    ∙ ap (λ (x : Bool). told true true same x) d

module _ (i : Image) (oa ob : Option Head) (a b : Head) (is_a : oa ≡ Some a) (is_b : ob ≡ Some b) (read_a : IsHeadRead i.a oa) (read_b : IsHeadRead i.b ob)
    (m n : ℕ) (at_a : m ≡ generation_of a.bytes) (at_b : n ≡ generation_of b.bytes) where
  ha : IsHeadOf i.a a
  ha = head_of i.a oa a is_a read_a

  hb : IsHeadOf i.b b
  hb = head_of i.b ob b is_b read_b

  ga : m ≡ generation_of i.a
  ga = generation_read i.a a m ha at_a

  gb : n ≡ generation_of i.b
  gb = generation_read i.b b n hb at_b

  pub both_same : (m == n) ≡ true → higher i.a i.b ≡ Err (B, 5)
  both_same e = higher_is i true _ ha.live hb.live (ap (λ (k : ℕ). k == generation_of i.b) (sym ga) ∙ ap (λ (k : ℕ). m == k) (sym gb) ∙ e) refl

  pub first_higher : (m == n) ≡ false → n < m → HigherIs i (Some (record { file = A; head = a }))
  first_higher e less = (
    higher_is i false true ha.live hb.live (ap (λ (k : ℕ). k == generation_of i.b) (sym ga) ∙ ap (λ (k : ℕ). m == k) (sym gb) ∙ e)
        (lt-ltb (generation_of i.b) (generation_of i.a) (omega (arith, less, ga, gb))),
    ha,
  )

  pub second_higher : (m == n) ≡ false → m ≤ n → HigherIs i (Some (record { file = B; head = b }))
  second_higher e less = (
    higher_is i false false ha.live hb.live (ap (λ (k : ℕ). k == generation_of i.b) (sym ga) ∙ ap (λ (k : ℕ). m == k) (sym gb) ∙ e)
        (false_from_ne_true (nat_lt (generation_of i.b) (generation_of i.a)) (λ below. omega (arith, less, ga, gb, ltb-true (generation_of i.b) (generation_of i.a) below))),
    hb,
  )

-- what is chosen where both headers were looked at
pub a_damaged : (i : Image) (place : ℕ) (x : Option ℕ) → x ≡ Some place → x ≡ header_damage i.a → choice i ≡ Err (A, place)
a_damaged i place x e d = ap (λ (o : Option ℕ). higher_unless o (header_damage i.b) i.a i.b) (sym d ∙ e)

pub b_damaged : (i : Image) (place : ℕ) (x y : Option ℕ) → x ≡ None → x ≡ header_damage i.a → y ≡ Some place → y ≡ header_damage i.b → choice i ≡ Err (B, place)
b_damaged i place x y e d f g =
    ap (λ (o : Option ℕ). higher_unless o (header_damage i.b) i.a i.b) (sym d ∙ e) ∙ ap (λ (o : Option ℕ). higher_unless None o i.a i.b) (sym g ∙ f)

pub none_damaged : (i : Image) (x y : Option ℕ) → x ≡ None → x ≡ header_damage i.a → y ≡ None → y ≡ header_damage i.b → choice i ≡ higher i.a i.b
none_damaged i x y e d f g =
    ap (λ (o : Option ℕ). higher_unless o (header_damage i.b) i.a i.b) (sym d ∙ e) ∙ ap (λ (o : Option ℕ). higher_unless None o i.a i.b) (sym g ∙ f)

pub choice_is : (i : Image) (found : Option Chosen) → choice i ≡ higher i.a i.b → HigherIs i found → IsChoice i found
choice_is i found e h = (e ∙ h.0, h.1)

pub higher_damaged : (i : Image) (place : ℕ) → choice i ≡ higher i.a i.b → higher i.a i.b ≡ Err (B, place) → choice i ≡ Err (B, place)
higher_damaged i place e d = e ∙ d

T-true : (b : Bool) → T b → b ≡ true
T-true true h = refl
T-true false h = absurd h

pub same_eq : (m n : ℕ) → m ≡ n → (m == n) ≡ true
same_eq m n e = subst (λ (k : ℕ). (m == k) ≡ true) e (T-true (m == m) (eqb_refl m))

pub same_err : {X : Type 0} (i : Image) (p q : ℕ) (r s : Result X ℕ) → r ≡ Err p → s ≡ Err q → r ≡ s → higher i.a i.b ≡ Err (B, p) → higher i.a i.b ≡ Err (B, q)
same_err i p q r s a b e d = subst (λ (n : ℕ). higher i.a i.b ≡ Err (B, n)) (one r s p q a b e) d
  where
    one : {X : Type 0} (r s : Result X ℕ) (p q : ℕ) → r ≡ Err p → s ≡ Err q → r ≡ s → p ≡ q
    one r s p q a b e = cc
