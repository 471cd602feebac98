-- What stands between two words of a list.
use Rattle.std.specs.Prelude.{ℕ, List, [], ◌∷◌, Bool, if◌then◌else◌}

-- a comma, where a word stands before
abbrev pub comma_if : Bool → List ℕ
comma_if later = if later then 44 ∷ [] else []
