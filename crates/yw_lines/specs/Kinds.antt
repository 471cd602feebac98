-- The words of the kinds of rule trees. The kinds are after the thesis, the words our own.
use Rattle.std.specs.Prelude.{ℕ, List, [], ◌∷◌, Option, codes}
use Rattle.yw_lines.specs.Words.{written}
use Rattle.yw_state.specs.declared.tree.TreeKind.{TreeKind}
use Rattle.yw_state.specs.declared.tree.TreeKind.TheVariants as kinds

abbrev pub kind_text : TreeKind → List ℕ
kind_text kinds.Pre = codes "pre"
kind_text kinds.Post = codes "post"
kind_text kinds.Select = codes "select"
kind_text kinds.External = codes "external"
kind_text kinds.Timeout = codes "timeout"
kind_text kinds.Abort = codes "abort"

-- what may happen outside
abbrev pub raised_kinds : List TreeKind
raised_kinds = kinds.External ∷ kinds.Timeout ∷ kinds.Abort ∷ []

abbrev pub kind_words : List ℕ → Option TreeKind
kind_words = written kind_text (kinds.Pre ∷ kinds.Post ∷ kinds.Select ∷ raised_kinds)

abbrev pub raised_words : List ℕ → Option TreeKind
raised_words = written kind_text raised_kinds
