-- Where file A alone is live, the first damage of both files is that of file A.
use Rattle.std.proofs.Common.{◌≡◌, ◌⊎◌, ◌&&◌, ◌==◌, ℕ, [], take, drop, Bool, true, false, not, if◌then◌else◌, Option, None, Some, Result, Ok, Err, inl, inr, refl, sym, ap, ◌∙◌, subst, arith}
use Rattle.std.proofs.lemmas.Bool.{eqb-true}
use Rattle.yw_outside.specs.declared.desk.File.{File}
use Rattle.yw_outside.specs.declared.desk.File.TheVariants.{A, B}
use Rattle.yw_outside.specs.declared.image.Image.{Image}
use Rattle.yw_outside.specs.Image.{file_in}
use Rattle.yw_journal.specs.Files.{DamagedBehind, HasNoMeaning, IsCut, IsDamaged, Meaning, choice, header_damage, higher, higher_unless, is_live, snapshot_size_of}
use Rattle.yw_snapshot.specs.Alone.{IsDamagedAlone, IsOfFileA, damage_or, heads_damage, later_damage}
use Rattle.yw_snapshot.proofs.Fronts.{live_long}
use Rattle.yw_snapshot.proofs.HeldChosen.{not_live}

some_pair : (x y : File × ℕ) → Some x ≡ Some y → x ≡ y
some_pair x y e = cc

none_pair : (x : File × ℕ) → None ≡ Some x → ⊥
none_pair x e = cc

err_pair : {X : Type 0} (r : Result X (File × ℕ)) (x y : File × ℕ) → r ≡ Err x → r ≡ Err y → x ≡ y
err_pair r x y e d = cc

err_ok : {X Y : Type 0} (r : Result X Y) (x : X) (y : Y) → r ≡ Ok x → r ≡ Err y → ⊥
err_ok r x y e d = cc

some_none : {Y : Type 0} (r : Result (Option File) Y) (f : File) → r ≡ Ok None → r ≡ Ok (Some f) → ⊥
some_none r f e d = cc

same_file : {Y : Type 0} (r : Result (Option File) Y) (f g : File) → r ≡ Ok (Some f) → r ≡ Ok (Some g) → f ≡ g
same_file r f g e d = cc

module _ (i : Image) (file_a : IsOfFileA i) where
  no_later : later_damage i ≡ None
  no_later =
      ap (λ (p : Bool). if p then Some (B, 0) else if is_live i.a && not (snapshot_size_of i.a == 0) then Some (A, 21) else None) file_a.alone
      ∙ ap (λ (p : Bool). if p then Some (A, 21) else None) file_a.no_snapshot

  sound_b : header_damage i.b ≡ None
  sound_b = not_live i.b file_a.alone

  chosen_by : (x : Option ℕ) → header_damage i.a ≡ x → choice i ≡ higher_unless x None i.a i.b
  chosen_by x e = ap (λ (o : Option ℕ). higher_unless o (header_damage i.b) i.a i.b) e ∙ ap (λ (o : Option ℕ). higher_unless x o i.a i.b) sound_b

  heads_by : (x : Option ℕ) → header_damage i.a ≡ x → heads_damage i ≡ damage_or x None
  heads_by x e = ap (λ (o : Option ℕ). damage_or o (later_damage i)) e ∙ ap (λ (o : Option (File × ℕ)). damage_or x o) no_later

  alone_told : (p : Bool) → is_live i.a ≡ p → higher i.a i.b ≡ (if p then Ok (Some A) else Ok None)
  alone_told p e = by p e file_a.alone
    where
      by : (p : Bool) → is_live i.a ≡ p → is_live i.b ≡ false → higher i.a i.b ≡ (if p then Ok (Some A) else Ok None)
      by true e d = cc
      by false e d = cc

  header_sound : (x : Option ℕ) → header_damage i.a ≡ x → heads_damage i ≡ None → header_damage i.a ≡ None
  header_sound None e none = e
  header_sound (Some p) e none = absurd (none_pair (A, p) (sym none ∙ heads_by (Some p) e))

  -- a live file A without a snapshot
  size_none : is_live i.a ≡ true → snapshot_size_of i.a ≡ 0
  size_none live = eqb-true (snapshot_size_of i.a) 0 (by (is_live i.a) (snapshot_size_of i.a == 0) live file_a.no_snapshot)
    where
      by : (p q : Bool) → p ≡ true → (p && not q) ≡ false → q ≡ true
      by true true e d = refl
      by true false e d = cc
      by false q e d = cc

  module _ {S : Type 0} (m : Meaning S) (f : File) (place : ℕ) where
    of_header : (x : Option ℕ) → header_damage i.a ≡ x → heads_damage i ≡ Some (f, place) → choice i ≡ Err (f, place)
    of_header None e shown = absurd (none_pair (f, place) (sym (heads_by None e) ∙ shown))
    of_header (Some p) e shown = chosen_by (Some p) e ∙ ap (λ (x : File × ℕ). Err x) (some_pair (A, p) (f, place) (sym (heads_by (Some p) e) ∙ shown))

    pub from_alone : IsDamagedAlone m i f place → IsDamaged m i f place
    from_alone (inl shown) = inl (of_header (header_damage i.a) refl shown)
    from_alone (inr d) =
        let sound = header_sound (header_damage i.a) refl d.sound in
        subst (λ (g : File). IsDamaged m i g place) (sym d.file) (inr (chosen_by None sound ∙ alone_told true d.live, inr (inr d.here)))

    of_choice : (x : Option ℕ) (p : Bool) → header_damage i.a ≡ x → is_live i.a ≡ p → choice i ≡ Err (f, place) → heads_damage i ≡ Some (f, place)
    of_choice None true e live shown = absurd (err_ok (choice i) (Some A) (f, place) (chosen_by None e ∙ alone_told true live) shown)
    of_choice None false e live shown = absurd (err_ok (choice i) None (f, place) (chosen_by None e ∙ alone_told false live) shown)
    of_choice (Some q) p e live shown = heads_by (Some q) e ∙ ap (λ (x : File × ℕ). Some x) (err_pair (choice i) (A, q) (f, place) (chosen_by (Some q) e) shown)

    of_behind : (start : S) → m.Opens [] start → (x : Option ℕ) (p : Bool) → header_damage i.a ≡ x → is_live i.a ≡ p → choice i ≡ Ok (Some f) → DamagedBehind m (file_in f i) place → IsDamagedAlone m i f place
    of_behind start opens (Some q) p e live chosen d = absurd (err_ok (choice i) (Some f) (A, q) chosen (chosen_by (Some q) e))
    of_behind start opens None false e live chosen d = absurd (some_none (choice i) f (chosen_by None e ∙ alone_told false live) chosen)
    of_behind start opens None true e live chosen d =
        let which : f ≡ A = same_file (choice i) f A chosen (chosen_by None e ∙ alone_told true live) in
        inr (record { sound = heads_by None e; live = live; file = which; here = behind (subst (λ (g : File). DamagedBehind m (file_in g i) place) which d) })
      where
        size : snapshot_size_of i.a ≡ 0
        size = size_none live

        behind : DamagedBehind m i.a place → IsCut m i.a place ⊎ HasNoMeaning m i.a place
        behind (inl cut) = absurd (omega (arith, cut.0.passes, size, live_long i.a live))
        behind (inr (inl none)) = absurd (none.0.none start (subst (λ (n : ℕ). m.Opens (take n (drop 29 i.a)) start) (sym size) opens))
        behind (inr (inr here)) = here

    pub to_alone : (start : S) → m.Opens [] start → IsDamaged m i f place → IsDamagedAlone m i f place
    to_alone start opens (inl shown) = inl (of_choice (header_damage i.a) (is_live i.a) refl refl shown)
    to_alone start opens (inr d) = of_behind start opens (header_damage i.a) (is_live i.a) refl refl d.0 d.1

pub from_file_a : {S : Type 0} (m : Meaning S) (i : Image) (f : File) (place : ℕ) → IsOfFileA i → IsDamagedAlone m i f place → IsDamaged m i f place
from_file_a m i f place file_a d = from_alone i file_a m f place d

pub to_file_a : {S : Type 0} (m : Meaning S) (start : S) → m.Opens [] start → (i : Image) (f : File) (place : ℕ) → IsOfFileA i → IsDamaged m i f place → IsDamagedAlone m i f place
to_file_a m start opens i f place file_a d = to_alone i file_a m f place start opens d
