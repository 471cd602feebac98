-- What a desk holds, and what its calls and a crash do to it.
use Rattle.std.specs.Prelude.{◌≡◌, ℕ, ◌+◌, ◌≤◌, max, List, ◌++◌, length, take, drop, Result, MatchResult}
use Rattle.yw_outside.specs.declared.desk.File.{File}
use Rattle.yw_outside.specs.declared.desk.File.TheVariants.{A, B}
use Rattle.yw_outside.specs.declared.image.Image.{Image}

abbrev pub file_in : File → Image → List ℕ
file_in A i = i.a
file_in B i = i.b

abbrev pub other_in : File → Image → List ℕ
other_in A i = i.b
other_in B i = i.a

-- the bytes with others over them from this offset on
abbrev pub overwritten : List ℕ → ℕ → List ℕ → List ℕ
overwritten old at bytes = take at old ++ bytes ++ drop (at + length bytes) old

-- new is old with these bytes at this offset
abbrev pub Holds : List ℕ → ℕ → List ℕ → List ℕ → Type 0
Holds old at bytes new = new ≡ overwritten old at bytes

-- After a write of n bytes that a crash cuts short: any bytes in the range and past the old end, the same
-- elsewhere, and an end anywhere from the old one to the last byte written.
pub record Torn (at n : ℕ) (old new : List ℕ) : Type 0 where
  pub before : take at new ≡ take at old
  pub after : drop (at + n) new ≡ drop (at + n) old
  pub no_shorter : length old ≤ length new
  pub no_longer : length new ≤ max (length old) (at + n)

-- the steps that the calls may take

abbrev pub Stays : Image → Image → Type 0
Stays old new = new ≡ old

-- a write of n bytes to a file, whole or torn
pub record Writes (f : File) (at n : ℕ) (old new : Image) : Type 0 where
  pub torn : Torn at n (file_in f old) (file_in f new)
  pub other : other_in f new ≡ other_in f old
  pub said : new.said ≡ old.said

-- a prefix of the bytes is said
abbrev pub SaysPart : List ℕ → List ℕ → List ℕ → Type 0
SaysPart old bytes new = (prefix : List ℕ) × (rest : List ℕ) × (bytes ≡ prefix ++ rest) × (new ≡ old ++ prefix)

pub record Speaks (bytes : List ℕ) (old new : Image) : Type 0 where
  pub a : new.a ≡ old.a
  pub b : new.b ≡ old.b
  pub said : SaysPart old.said bytes new.said

-- all is said at Ok, and a prefix of it else
abbrev pub Says : {T E : Type 0} → List ℕ → List ℕ → Result T E → List ℕ → Type 0
Says old bytes result new = MatchResult result (λ _. new ≡ old ++ bytes) (λ _. SaysPart old bytes new)

-- after a write: the file holds the bytes at Ok, and the rest stays in any case
pub record Written {T E : Type 0} (f : File) (at : ℕ) (bytes : List ℕ) (old : Image) (result : Result T E) (new : Image) : Type 0 where
  pub ok : MatchResult result (λ _. Holds (file_in f old) at bytes (file_in f new)) (λ _. Unit {0})
  pub other : other_in f new ≡ other_in f old
  pub said : new.said ≡ old.said
