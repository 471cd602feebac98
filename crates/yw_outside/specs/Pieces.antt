-- What a read of a piece does.
use Rattle.std.specs.Io.KnownBytes.{Consumes, IsAtEnd, Keeps}
use Rattle.std.specs.Prelude.{◌≡◌, ℕ, List, take, Option, Result, MatchResult}

-- So many bytes are taken, which the piece begins with, and none only at the end; or, where the read failed, none is taken.
abbrev pub ReadsPiece : {E : Type 0} → Option (List ℕ) → Option (List ℕ) → List ℕ → Result ℕ E → Type 0
ReadsPiece before left piece result =
    MatchResult result (λ n. Consumes before left (take n piece) × (n ≡ 0 → IsAtEnd left)) (λ fault. Keeps before left)
