-- The kinds of tasks, as a document says them.
use Rattle.std.specs.Prelude.{Bool, true, false}
use Rattle.yw_read.specs.declared.raw.RawKind.{RawKind}
use Rattle.yw_read.specs.declared.raw.RawKind.TheVariants as kinds

-- its items run in a net: the paper's composite task
abbrev pub is_composite : RawKind → Bool
is_composite kinds.Sub = true
is_composite kind = false

-- nobody does its items
abbrev pub is_empty : RawKind → Bool
is_empty kinds.Empty = true
is_empty kind = false
