-- What a source in memory stands for that never fails.
use Rattle.std.specs.Prelude.{ℕ, Option, Some, List, drop}
use Rattle.yw_outside.specs.declared.never_source.NeverSource.{NeverSource}

-- the bytes still to come
abbrev pub left_of : NeverSource → Option (List ℕ)
left_of s = Some (drop s.at s.bytes.items)

-- how many bytes the last read gave
abbrev pub piece_of : NeverSource → ℕ
piece_of s = s.piece

-- it never fails
abbrev pub faults_of : NeverSource → ℕ
faults_of s = 0
