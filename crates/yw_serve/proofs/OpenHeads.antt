-- What the first bytes of a file say of it.
use Rattle.std.proofs.Common.{◌≡◌, ◌==◌, ◌&&◌, ℕ, ◌+◌, ◌≤◌, nat_le, List, [], ◌∷◌, ◌++◌, length, take, drop, get_or, Bool, true, false, not, if◌then◌else◌, Option, None, Some, IsSome, refl, sym, ap, ◌∙◌, arith, rules, length-take, length-drop}
use Rattle.std.proofs.Math.Seq.{take-add}
use Rattle.std.proofs.lemmas.Bool.{eqb-true, leb-true}
use Rattle.std.proofs.lemmas.List.{take-take, drop-take, drop_more, get_or-take, append-nil}
use Rattle.std.proofs.lemmas.Slice.Eq.{bytes_eq-Decides}
use Rattle.std.specs.Int.{w64, from_be_bytes}
use Rattle.std.specs.Str.{bytes_eq}
use Rattle.yw_outside.specs.declared.desk.File.{File}
use Rattle.yw_outside.specs.declared.desk.File.TheVariants.{A, B}
use Rattle.yw_outside.specs.declared.image.Image.{Image}
use Rattle.yw_journal.specs.Files.{IsHead, is_live, header_damage, magic, magic_of, generation_of, count_of, snapshot_size_of, greatest}
use Rattle.yw_journal.specs.FileLaws.{damage}
use Rattle.yw_serve.specs.Damage.{damage_or, heads_damage, later_damage}
use Rattle.yw_serve.specs.Opening.{IsHeadOf, IsHeadRead}
use Rattle.yw_serve.specs.declared.header.Head.{Head}

-- a part of the front
front_part : (a n k : ℕ) (file : List ℕ) → n ≤ k → take n (drop a (take (a + k) file)) ≡ take n (drop a file)
front_part a n k file le = ap (take n) (drop-take a k file) ∙ take-take n k (drop a file) le

front_size : (file : List ℕ) → 30 ≤ length file → length (take 30 file) ≡ 30
front_size file long = omega (arith, length-take 30 file)

front_first : (file : List ℕ) → get_or (take 30 file) 0 0 ≡ get_or file 0 0
front_first file = get_or-take 30 file 0 0 (omega arith)

front_magic : (file : List ℕ) → magic_of (take 30 file) ≡ magic_of file
front_magic file = front_part 1 4 29 file (omega arith)

pub front_generation : (file : List ℕ) → generation_of (take 30 file) ≡ generation_of file
front_generation file = ap (from_be_bytes w64) (front_part 5 8 25 file (omega arith))

pub front_count : (file : List ℕ) → count_of (take 30 file) ≡ count_of file
front_count file = ap (from_be_bytes w64) (front_part 13 8 17 file (omega arith))

front_snapshot : (file : List ℕ) → snapshot_size_of (take 30 file) ≡ snapshot_size_of file
front_snapshot file = ap (from_be_bytes w64) (front_part 21 8 9 file (omega arith))

and_left : (p q : Bool) → (p && q) ≡ true → p ≡ true
and_left true q e = refl
and_left false q e = cc

and_right : (p q : Bool) → (p && q) ≡ true → q ≡ true
and_right true q e = e
and_right false q e = cc

pub live_long : (file : List ℕ) → is_live file ≡ true → 30 ≤ length file
live_long file live = leb-true 30 (length file) (and_left (nat_le 30 (length file)) (get_or file 0 0 == 1) live)

pub live_open : (file : List ℕ) → is_live file ≡ true → get_or file 0 0 ≡ 1
live_open file live = eqb-true (get_or file 0 0) 1 (and_right (nat_le 30 (length file)) (get_or file 0 0 == 1) live)

front_live : (file : List ℕ) → 30 ≤ length file → is_live (take 30 file) ≡ is_live file
front_live file long = let e = front_size file long in let f = front_first file in let g : nat_le 30 (length file) ≡ true = search (rules, arith) in cc

-- what a header shows by itself, by its fields
abbrev shown : Bool → List ℕ → ℕ → ℕ → Option ℕ
shown live m generation count = damage live (bytes_eq m magic) (nat_le 1 generation && nat_le generation greatest) (nat_le count greatest)

pub front_damage : (file : List ℕ) → 30 ≤ length file → header_damage (take 30 file) ≡ header_damage file
front_damage file long =
    ap (λ (b : Bool). shown b (magic_of (take 30 file)) (generation_of (take 30 file)) (count_of (take 30 file))) (front_live file long)
    ∙ ap (λ (m : List ℕ). shown (is_live file) m (generation_of (take 30 file)) (count_of (take 30 file))) (front_magic file)
    ∙ ap (λ (n : ℕ). shown (is_live file) (magic_of file) n (count_of (take 30 file))) (front_generation file)
    ∙ ap (λ (n : ℕ). shown (is_live file) (magic_of file) (generation_of file) n) (front_count file)

none_true : (p q r s : Bool) → p ≡ true → damage p q r s ≡ None → (q ≡ true) × (r ≡ true) × (s ≡ true)
none_true true true true true live e = (refl, refl, refl)
none_true true true true false live e = cc
none_true true true false s live e = cc
none_true true false r s live e = cc
none_true false q r s live e = cc

pub record IsSound (file : List ℕ) : Type 0 where
  pub magic_is : bytes_eq (magic_of file) magic ≡ true
  pub some : 1 ≤ generation_of file
  pub small : generation_of file ≤ greatest
  pub few : count_of file ≤ greatest

pub sound_is : (file : List ℕ) → is_live file ≡ true → header_damage file ≡ None → IsSound file
sound_is file live none =
    let t = none_true (is_live file) (bytes_eq (magic_of file) magic) (nat_le 1 (generation_of file) && nat_le (generation_of file) greatest) (nat_le (count_of file) greatest) live none in
    record {
      magic_is = t.0;
      some = leb-true 1 (generation_of file) (and_left (nat_le 1 (generation_of file)) (nat_le (generation_of file) greatest) t.1);
      small = leb-true (generation_of file) greatest (and_right (nat_le 1 (generation_of file)) (nat_le (generation_of file) greatest) t.1);
      few = leb-true (count_of file) greatest t.2;
    }

pub not_live : (file : List ℕ) → is_live file ≡ false → header_damage file ≡ None
not_live file e = ap (λ (p : Bool). damage p (bytes_eq (magic_of file) magic) (nat_le 1 (generation_of file) && nat_le (generation_of file) greatest) (nat_le (count_of file) greatest)) e

-- what is found after a sound header is the damage there
pub later_found : (i : Image) (b : Option Head) (snapshot : Bool) (found : Option (File × ℕ)) → IsHeadRead i.b b → (is_live i.a && not (snapshot_size_of i.a == 0)) ≡ snapshot
    → (IsSome b → found ≡ Some (B, 0)) → (b ≡ None → found ≡ (if snapshot then Some (A, 21) else None)) → found ≡ later_damage i
later_found i None snapshot found read same live none =
    none refl ∙ ap (λ (p : Bool). if p then Some (A, 21) else None) (sym same)
    ∙ sym (ap (λ (p : Bool). if p then Some (B, 0) else if is_live i.a && not (snapshot_size_of i.a == 0) then Some (A, 21) else None) read)
later_found i (Some head) snapshot found read same live none =
    live (search rules) ∙ sym (ap (λ (p : Bool). if p then Some (B, 0) else if is_live i.a && not (snapshot_size_of i.a == 0) then Some (A, 21) else None) read.live)

-- a header's damage is the first
pub header_found : (i : Image) (head : Head) (place : ℕ) → IsHeadOf i.a head → Some place ≡ header_damage head.bytes → Some (A, place) ≡ heads_damage i
header_found i head place read e = ap (λ (d : Option ℕ). damage_or d (later_damage i)) (e ∙ ap header_damage read.bytes ∙ front_damage i.a (live_long i.a read.live))

-- after a sound one another may follow
pub header_passed : (i : Image) (head : Head) (found : Option (File × ℕ)) → IsHeadOf i.a head → None ≡ header_damage head.bytes → found ≡ later_damage i → found ≡ heads_damage i
header_passed i head found read e later = later ∙ ap (λ (d : Option ℕ). damage_or d (later_damage i)) (e ∙ ap header_damage read.bytes ∙ front_damage i.a (live_long i.a read.live))

pub snapshot_same : (i : Image) (head : Head) (n : ℕ) → IsHeadOf i.a head → n ≡ snapshot_size_of head.bytes → (is_live i.a && not (snapshot_size_of i.a == 0)) ≡ not (n == 0)
snapshot_same i head n read e =
    ap (λ (p : Bool). p && not (snapshot_size_of i.a == 0)) read.live
    ∙ ap (λ (k : ℕ). not (k == 0)) (sym (e ∙ ap snapshot_size_of read.bytes ∙ front_snapshot i.a))

-- the headers of a live file A and a file B that isn't live show no damage
none_or : (d : Option ℕ) (other : Option (File × ℕ)) → damage_or d other ≡ None → (d ≡ None) × (other ≡ None)
none_or None other e = (refl, e)
none_or (Some place) other e = cc

abbrev snapshot_damage : Bool → Bool → Option (File × ℕ)
snapshot_damage live empty = if live && not empty then Some (A, 21) else None

no_later : (live empty : Bool) → live ≡ true → snapshot_damage live empty ≡ None → empty ≡ true
no_later true true live e = refl
no_later true false live e = cc
no_later false empty live e = cc

pub heads_sound : (i : Image) → is_live i.a ≡ true → is_live i.b ≡ false → heads_damage i ≡ None → (header_damage i.a ≡ None) × (snapshot_size_of i.a ≡ 0)
heads_sound i live alone none =
    let t = none_or (header_damage i.a) (later_damage i) none in (
      t.0,
      eqb-true (snapshot_size_of i.a) 0 (no_later (is_live i.a) (snapshot_size_of i.a == 0) live
          (sym (ap (λ (p : Bool). if p then Some (B, 0) else if is_live i.a && not (snapshot_size_of i.a == 0) then Some (A, 21) else None) alone) ∙ t.1)),
    )

-- The header as far as the gate after an empty snapshot.
fields : (file : List ℕ) → take 29 file ≡ take 1 file ++ take 4 (drop 1 file) ++ take 8 (drop 5 file) ++ take 8 (drop 13 file) ++ take 8 (drop 21 file)
fields file =
    take-add 21 8 file
    ∙ ap (λ (l : List ℕ). l ++ take 8 (drop 21 file))
    (take-add 13 8 file
    ∙ ap (λ (l : List ℕ). l ++ take 8 (drop 13 file))
    (take-add 5 8 file ∙ ap (λ (l : List ℕ). l ++ take 8 (drop 5 file)) (take-add 1 4 file)))

first_is : (file : List ℕ) → 30 ≤ length file → get_or file 0 0 ≡ 1 → take 1 file ≡ 1 ∷ []
first_is file long open_ = ap (take 1) (drop_more file 0 0 (omega arith) ∙ ap (λ (g : ℕ). g ∷ drop 1 file) open_)

pub header_is : (file : List ℕ) → is_live file ≡ true → header_damage file ≡ None → snapshot_size_of file ≡ 0 → IsHead (generation_of file) (count_of file) [] (take 29 file)
header_is file live none empty =
    let long = live_long file live in
    let sound = sound_is file live none in
    record {
      generation_field = take 8 (drop 5 file);
      count_field = take 8 (drop 13 file);
      size_field = take 8 (drop 21 file);
      split = fields file
          ∙ ap (λ (l : List ℕ). l ++ take 4 (drop 1 file) ++ take 8 (drop 5 file) ++ take 8 (drop 13 file) ++ take 8 (drop 21 file)) (first_is file long (live_open file live))
          ∙ ap (λ (l : List ℕ). ((1 ∷ []) ++ l) ++ take 8 (drop 5 file) ++ take 8 (drop 13 file) ++ take 8 (drop 21 file)) ((bytes_eq-Decides (magic_of file) magic).0 sound.magic_is)
          ∙ sym (append-nil (1 ∷ magic ++ take 8 (drop 5 file) ++ take 8 (drop 13 file) ++ take 8 (drop 21 file)));
      generation_eight = omega (arith, length-take 8 (drop 5 file), length-drop 5 file);
      count_eight = omega (arith, length-take 8 (drop 13 file), length-drop 13 file);
      size_eight = omega (arith, length-take 8 (drop 21 file), length-drop 21 file);
      generation_is = refl;
      count_is = refl;
      size_is = empty;
      generation_some = sound.some;
      generation_small = sound.small;
      count_small = sound.few;
    }

-- nor does a file B that isn't live
abbrev shown_alone : Bool → Option (File × ℕ) → Option (File × ℕ)
shown_alone live other = if live then Some (B, 0) else other

none_then : (live : Bool) (other : Option (File × ℕ)) → shown_alone live other ≡ None → live ≡ false
none_then true other e = cc
none_then false other e = refl

pub heads_alone : (i : Image) → heads_damage i ≡ None → is_live i.b ≡ false
heads_alone i none = none_then (is_live i.b) (snapshot_damage (is_live i.a) (snapshot_size_of i.a == 0)) (none_or (header_damage i.a) (later_damage i) none).1
