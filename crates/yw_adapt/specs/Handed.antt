-- What a writer was handed, where it tells what it holds. Our own.
use Rattle.std.specs.Prelude.{◌≡◌, List, ℕ, ◌++◌, Option, Result, MatchResult}
use Rattle.std.specs.Io.KnownBytes.{Appends}

-- all of the bytes at Ok, and else a prefix of them
abbrev pub Handed : {T E : Type 0} → Option (List ℕ) → Option (List ℕ) → Result T E → List ℕ → Type 0
Handed old new result bytes = MatchResult result (λ _. Appends old new bytes) (λ _. (prefix : List ℕ) × (rest : List ℕ) × (bytes ≡ prefix ++ rest) × Appends old new prefix)
