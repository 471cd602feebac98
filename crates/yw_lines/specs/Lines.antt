-- The lines of bytes: the pieces that end at a newline, and at the end of the input what follows the last one. Our
-- own.
use Rattle.std.specs.Prelude.{ℕ, ◌==◌, ◌≢◌, List, [], ◌∷◌, ◌++◌, Bool, All, if◌then◌else◌}

abbrev pub newline : ℕ
newline = 10

-- the most bytes of a line, without its newline
abbrev pub line_limit : ℕ
line_limit = 1048576

-- bytes of one line
abbrev pub HasNoNewline : List ℕ → Type 0
HasNoNewline bs = All (λ b. b ≢ newline) bs

-- a byte in front of the first line, if there is one
abbrev pub with_byte : ℕ → List (List ℕ) → List (List ℕ)
with_byte b [] = []
with_byte b (line ∷ lines) = (b ∷ line) ∷ lines

-- the pieces that end at a newline, without it, in order
abbrev pub whole_lines : List ℕ → List (List ℕ)
whole_lines [] = []
whole_lines (b ∷ bs) = if b == newline then [] ∷ whole_lines bs else with_byte b (whole_lines bs)

-- what follows the last newline of a byte and more, whose whole lines and last part are these
abbrev pub rest_after : Bool → ℕ → List (List ℕ) → List ℕ → List ℕ
rest_after is_newline b [] rest = if is_newline then rest else b ∷ rest
rest_after is_newline b (line ∷ lines) rest = rest

-- what follows the last newline
abbrev pub last_part : List ℕ → List ℕ
last_part [] = []
last_part (b ∷ bs) = rest_after (b == newline) b (whole_lines bs) (last_part bs)

-- one line more, where bytes follow the last newline
abbrev pub last_line : List ℕ → List (List ℕ)
last_line [] = []
last_line (b ∷ bs) = (b ∷ bs) ∷ []

-- the lines of an input that has ended
abbrev pub all_lines : List ℕ → List (List ℕ)
all_lines bs = whole_lines bs ++ last_line (last_part bs)

-- the lines of bytes, of which `ended` says that no more come
abbrev pub lines : List ℕ → Bool → List (List ℕ)
lines bs ended = if ended then all_lines bs else whole_lines bs
