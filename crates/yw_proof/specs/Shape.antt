-- What a text of the words `prove` gives: a JSON object with `net`, `toml` and `weights` alone, which are a net's name, the text of its
-- specification, and weights under names. Our own.
use Rattle.std.specs.Prelude.{ℕ, List, is_some, if◌then◌else◌, Option, Some, None, codes}
use Rattle.std.specs.Str.{is_utf8}
use Rattle.serde_json.specs.Data.{Data}
use Rattle.serde_json.specs.Find.{as_object, as_str}
use Rattle.serde_json.specs.Read.{read}
use Rattle.yw_lines.specs.Fields.{field, has_members, name_of, only_if}
use Rattle.yw_lines.specs.Shapes.{◌>>=◌}

pub record Proof : Type 0 where
  pub net : List ℕ
  pub toml : List ℕ
  pub weights : Data

-- what is given
abbrev pub gives : List ℕ → List ℕ → Data → Proof
gives net toml weights = record { net = net; toml = toml; weights = weights }

-- any object
abbrev pub object_of : Data → Option Data
object_of d = only_if (λ v. is_some (as_object v)) d

unfoldable pub proof_in : Data → Option Proof
proof_in d = do
  net ← field name_of (codes "net") d
  toml ← field as_str (codes "toml") d
  weights ← field object_of (codes "weights") d
  if has_members 3 d then Some (gives net toml weights) else None

-- what bytes say, as `serde_json` reads text; bytes that are no UTF-8 are none
unfoldable pub value_said : List ℕ → Option Data
value_said bytes = if is_utf8 bytes then read bytes else None
