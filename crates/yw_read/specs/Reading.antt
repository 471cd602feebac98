-- What a text says: a specification, or why it says none.
use Rattle.std.specs.Prelude.{◌≡◌, ℕ, List, Option, Some, None, Result, Ok, Err}
use Rattle.toml.specs.Data.{Members}
use Rattle.toml.specs.Parse.{parse_document}
use Rattle.yw_read.specs.declared.raw.RawSpec.{RawSpec}
use Rattle.yw_read.specs.declared.raw.ReadFault.{ReadFault}
use Rattle.yw_read.specs.declared.raw.ReadFault.TheVariants.{NotToml, Shape, Memory}
use Rattle.yw_read.specs.Tables.{spec_table}

-- a path is a fault of the shape
abbrev pub with_shape : {A : Type 0} → Result A (List ℕ) → Result A ReadFault
with_shape (Ok x) = Ok x
with_shape (Err path) = Err (Shape path)

-- of a document's table, or of a text that is no document
abbrev pub spec_from : Option Members → Result RawSpec ReadFault
spec_from None = Err NotToml
spec_from (Some t) = with_shape (spec_table t)

-- of a text
unfoldable pub spec_in : List ℕ → Result RawSpec ReadFault
spec_in text = spec_from (parse_document text)

-- The result is what is said, unless memory ran out.
abbrev pub Answers : {A : Type 0} → Result A ReadFault → Result A ReadFault → Type 0
Answers (Err Memory) said = Unit {0}
Answers result said = said ≡ result
