-- Texts in byte order.
use Rattle.std.specs.Prelude.{ℕ, List, Option, Some, None}
use Rattle.std.specs.Cmp.Lexicographic.{slice_cmp}
use Rattle.std.specs.Ordering.{nat_cmp, match_ordering}

-- the lesser of a text and another, where there is another
abbrev pub lesser : List ℕ → Option (List ℕ) → List ℕ
lesser text None = text
lesser text (Some other) = match_ordering (slice_cmp nat_cmp text other) text text other
