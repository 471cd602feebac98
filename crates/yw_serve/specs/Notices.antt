-- The two lines that are said beside replies: a damage of the files, and where the next entry would end, past the limit.
use Rattle.std.specs.Prelude.{ℕ, List, codes}
use Rattle.serde_json.specs.Data.{Data, unsigned, number, string, object, no_members, member}
use Rattle.yw_lines.specs.Replies.{line_of}
use Rattle.yw_outside.specs.declared.desk.File.{File}
use Rattle.yw_outside.specs.declared.desk.File.TheVariants.{A, B}

abbrev pub file_text : File → List ℕ
file_text A = codes "a"
file_text B = codes "b"

abbrev pub damage_data : File → ℕ → Data
damage_data f place = object (member (codes "at") (number (unsigned place)) (member (codes "damaged") (string (file_text f)) no_members))

abbrev pub full_data : ℕ → Data
full_data length = object (member (codes "full") (number (unsigned length)) no_members)

unfoldable pub damage_line : File → ℕ → List ℕ
damage_line f place = line_of (damage_data f place)

unfoldable pub full_line : ℕ → List ℕ
full_line length = line_of (full_data length)
