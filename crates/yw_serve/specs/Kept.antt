-- How much of a line is kept.
use Rattle.std.specs.Prelude.{ℕ, ◌+◌, List, take}
use Rattle.yw_lines.specs.Lines.{line_limit}

-- of a line that is too long, one byte more than the limit
unfoldable pub most_kept : ℕ
most_kept = line_limit + 1

-- what is kept of a line
abbrev pub kept_of : List ℕ → List ℕ
kept_of line = take most_kept line
