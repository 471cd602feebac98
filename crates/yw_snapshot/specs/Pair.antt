-- What both files hold is one thing, whatever entries mean: one state or one damage.
use Rattle.std.specs.Prelude.{◌≡◌, ℕ, List}
use Rattle.yw_outside.specs.declared.desk.File.{File}
use Rattle.yw_outside.specs.declared.image.Image.{Image}
use Rattle.yw_journal.specs.Files.{Content, Meaning, HoldState, IsDamaged, number_of}

-- A snapshot is one state's at most, and an entry leads from a state to one at most.
pub record IsOneMeaning {S : Type 0} (m : Meaning S) : Type 0 where
  pub opens : (bytes : List ℕ) (s t : S) → m.Opens bytes s → m.Opens bytes t → s ≡ t
  pub after : (s : S) (bytes : List ℕ) (t u : S) → m.After s bytes t → m.After s bytes u → t ≡ u

-- the state that is held is one
abbrev pub HeldOnce : {S : Type 0} → Meaning S → Type 0
HeldOnce {S} m = (i : Image) (c d : Content) (s t : S) → HoldState m c s i → HoldState m d t i → s ≡ t

-- files that hold a state have no damage
abbrev pub HeldOrDamaged : {S : Type 0} → Meaning S → Type 0
HeldOrDamaged {S} m = (i : Image) (c : Content) (s : S) (f : File) (place : ℕ) → HoldState m c s i → IsDamaged m i f place → ⊥

-- the first damage is one
abbrev pub DamagedOnce : {S : Type 0} → Meaning S → Type 0
DamagedOnce {S} m = (i : Image) (f g : File) (p q : ℕ) → IsDamaged m i f p → IsDamaged m i g q → (f ≡ g) × (p ≡ q)

-- the files hold this state, and this is how many entries led to it
abbrev pub HoldCounted : {S : Type 0} → Meaning S → S → ℕ → Image → Type 0
HoldCounted m s n i = (c : Content) × HoldState m c s i × (number_of c ≡ n)
