-- Which file is chosen, where both hold something.
use Rattle.std.proofs.Common.{◌≡◌, ◌==◌, ◌&&◌, ◌<◌, ℕ, List, Bool, true, false, if◌then◌else◌, nat_le, nat_lt, Option, None, Some, Result, Ok, Err, inl, inr, refl, ap, ◌∙◌, arith}
use Rattle.std.proofs.lemmas.Bool.{lt-ltb, ltb-true, eqb-true, false_from_ne_true}
use Rattle.std.specs.Str.{bytes_eq}
use Rattle.yw_outside.specs.declared.desk.File.{File}
use Rattle.yw_outside.specs.declared.desk.File.TheVariants.{A, B}
use Rattle.yw_outside.specs.declared.image.Image.{Image}
use Rattle.yw_journal.specs.Files.{Content, Holds, IsLesser, NoneIsLive, choice, count_of, generation_of, greatest, header_damage, higher_unless, is_live, magic, magic_of}
use Rattle.yw_journal.specs.FileLaws.{content_generation, content_live, content_sound, damage}

pub not_live : (file : List ℕ) → is_live file ≡ false → header_damage file ≡ None
not_live file e = ap (λ (p : Bool). damage p (bytes_eq (magic_of file) magic) (nat_le 1 (generation_of file) && nat_le (generation_of file) greatest) (nat_le (count_of file) greatest)) e

pub none_chosen : (i : Image) → NoneIsLive i → choice i ≡ Ok None
none_chosen i none =
    let a = not_live i.a none.a in
    let b = not_live i.b none.b in
    by (header_damage i.a) (header_damage i.b) a b (is_live i.a) (is_live i.b) refl refl none.a none.b
  where
    by : (x y : Option ℕ) → x ≡ None → y ≡ None → (p q : Bool) → is_live i.a ≡ p → is_live i.b ≡ q → p ≡ false → q ≡ false → higher_unless x y i.a i.b ≡ Ok None
    by x y e d p q f g h k = cc

sound_of : (generation : ℕ) (file : List ℕ) → IsLesser generation file → header_damage file ≡ None
sound_of generation file (inl dead) = not_live file dead
sound_of generation file (inr lesser) = lesser.0

not_same : (g h : ℕ) → h < g → (g == h) ≡ false
not_same g h e = false_from_ne_true (g == h) (λ same. omega (arith, e, eqb-true g h same))

not_same_back : (g h : ℕ) → h < g → (h == g) ≡ false
not_same_back g h e = false_from_ne_true (h == g) (λ same. omega (arith, e, eqb-true h g same))

not_below : (g h : ℕ) → h < g → nat_lt g h ≡ false
not_below g h e = false_from_ne_true (nat_lt g h) (λ less. omega (arith, e, ltb-true g h less))

-- what `higher` says, by its tests
abbrev told : Bool → Bool → Bool → Bool → Result (Option File) (File × ℕ)
told p q same below = if p then if q then (if same then Err (B, 5) else if below then Ok (Some A) else Ok (Some B)) else Ok (Some A) else if q then Ok (Some B) else Ok None

higher_is : (i : Image) (p q same below : Bool) → is_live i.a ≡ p → is_live i.b ≡ q → (generation_of i.a == generation_of i.b) ≡ same → nat_lt (generation_of i.b) (generation_of i.a) ≡ below
    → header_damage i.a ≡ None → header_damage i.b ≡ None → choice i ≡ told p q same below
higher_is i p q same below live_a live_b e d a b =
    ap (λ (x : Option ℕ). higher_unless x (header_damage i.b) i.a i.b) a ∙ ap (λ (x : Option ℕ). higher_unless None x i.a i.b) b
    ∙ ap (λ (x : Bool). told x (is_live i.b) (generation_of i.a == generation_of i.b) (nat_lt (generation_of i.b) (generation_of i.a))) live_a
    ∙ ap (λ (x : Bool). told p x (generation_of i.a == generation_of i.b) (nat_lt (generation_of i.b) (generation_of i.a))) live_b
    ∙ ap (λ (x : Bool). told p q x (nat_lt (generation_of i.b) (generation_of i.a))) e
    ∙ ap (λ (x : Bool). told p q same x) d

a_chosen : (c : Content) (end : ℕ) (i : Image) → Holds A c end i → choice i ≡ Ok (Some A)
a_chosen c end i h = by h.other
  where
    live : is_live i.a ≡ true
    live = content_live i.a c end h.file

    sound : header_damage i.a ≡ None
    sound = content_sound i.a c end h.file

    by : IsLesser c.generation i.b → choice i ≡ Ok (Some A)
    by (inl dead) = higher_is i true false _ _ live dead refl refl sound (not_live i.b dead)
    by (inr lesser) =
        let less : generation_of i.b < generation_of i.a = omega (arith, lesser.1, content_generation i.a c end h.file) in
        both (is_live i.b) refl less
      where
        both : (q : Bool) → is_live i.b ≡ q → generation_of i.b < generation_of i.a → choice i ≡ Ok (Some A)
        both true e less = higher_is i true true false true live e (not_same (generation_of i.a) (generation_of i.b) less) (lt-ltb (generation_of i.b) (generation_of i.a) less) sound lesser.0
        both false e less = higher_is i true false _ _ live e refl refl sound lesser.0

b_chosen : (c : Content) (end : ℕ) (i : Image) → Holds B c end i → choice i ≡ Ok (Some B)
b_chosen c end i h = by h.other
  where
    live : is_live i.b ≡ true
    live = content_live i.b c end h.file

    sound : header_damage i.b ≡ None
    sound = content_sound i.b c end h.file

    by : IsLesser c.generation i.a → choice i ≡ Ok (Some B)
    by (inl dead) = higher_is i false true _ _ dead live refl refl (not_live i.a dead) sound
    by (inr lesser) =
        let less : generation_of i.a < generation_of i.b = omega (arith, lesser.1, content_generation i.b c end h.file) in
        both (is_live i.a) refl less
      where
        both : (p : Bool) → is_live i.a ≡ p → generation_of i.a < generation_of i.b → choice i ≡ Ok (Some B)
        both true e less = higher_is i true true false false e live (not_same_back (generation_of i.b) (generation_of i.a) less) (not_below (generation_of i.b) (generation_of i.a) less) lesser.0 sound
        both false e less = higher_is i false true _ _ e live refl refl lesser.0 sound

-- the file that holds a content is the one that is chosen
pub held_is_chosen : (f : File) (c : Content) (end : ℕ) (i : Image) → Holds f c end i → choice i ≡ Ok (Some f)
held_is_chosen A c end i h = a_chosen c end i h
held_is_chosen B c end i h = b_chosen c end i h
