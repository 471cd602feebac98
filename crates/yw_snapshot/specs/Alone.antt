-- The first damage of file A alone, where file B isn't live and no file has a snapshot.
use Rattle.std.specs.Prelude.{◌≡◌, ◌⊎◌, ◌==◌, ◌&&◌, ℕ, [], true, false, not, if◌then◌else◌, Option, None, Some}
use Rattle.yw_outside.specs.declared.desk.File.{File}
use Rattle.yw_outside.specs.declared.desk.File.TheVariants.{A, B}
use Rattle.yw_outside.specs.declared.image.Image.{Image}
use Rattle.yw_journal.specs.Files.{Meaning, HasNoMeaning, IsCut, IsDamaged, header_damage, is_live, snapshot_size_of}

-- after a sound header of file A: file B is live, or a live file A has a snapshot
abbrev pub later_damage : Image → Option (File × ℕ)
later_damage i =
    if is_live i.b then Some (B, 0)
    else if is_live i.a && not (snapshot_size_of i.a == 0) then Some (A, 21) else None

abbrev pub damage_or : Option ℕ → Option (File × ℕ) → Option (File × ℕ)
damage_or (Some place) other = Some (A, place)
damage_or None other = other

-- the first damage that shows before the entries
abbrev pub heads_damage : Image → Option (File × ℕ)
heads_damage i = damage_or (header_damage i.a) (later_damage i)

-- at one gate after another of file A: it is missing, or its record passes the end or has no meaning in its turn
pub record IsDamagedWithin {S : Type 0} (m : Meaning S) (i : Image) (f : File) (place : ℕ) : Type 0 where
  pub sound : heads_damage i ≡ None
  pub live : is_live i.a ≡ true
  pub file : f ≡ A
  pub here : IsCut m i.a place ⊎ HasNoMeaning m i.a place

abbrev pub IsDamagedAlone : {S : Type 0} → Meaning S → Image → File → ℕ → Type 0
IsDamagedAlone m i f place = (heads_damage i ≡ Some (f, place)) ⊎ IsDamagedWithin m i f place

-- File B isn't live, and file A has no snapshot.
pub record IsOfFileA (i : Image) : Type 0 where
  pub alone : is_live i.b ≡ false
  pub no_snapshot : (is_live i.a && not (snapshot_size_of i.a == 0)) ≡ false

-- on such files the first damage of both files is that of file A alone
abbrev pub SaysAlone : {S : Type 0} → Meaning S → Type 0
SaysAlone {S} m =
    (start : S) → m.Opens [] start → (i : Image) (f : File) (place : ℕ) → IsOfFileA i → (IsDamagedAlone m i f place → IsDamaged m i f place) × (IsDamaged m i f place → IsDamagedAlone m i f place)
