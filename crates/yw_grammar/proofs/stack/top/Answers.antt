use Rattle.std.proofs.Common.{◌≡◌, ◌-◌, List, [], ◌∷◌, length, Option, Some, None, Bor}
use Rattle.std.specs.Prelude.{MatchOption, slice_get}
use Rattle.std.specs.Option.{option_copied}
use Rattle.yw_grammar.specs.declared.stack.Frame.{Frame}
use Rattle.yw_grammar.specs.Machine.{Begun}
use Rattle.yw_grammar.specs.Tie.{begun_of, tops}
use Rattle.yw_grammar.proofs.Tops.{top_of}
use Rattle.yw_grammar.proofs.stack.top.Goals as goal

top_behind : (fs : List Frame) (o : Option (Bor Frame)) → option_copied o ≡ slice_get fs (length fs - 1) → MatchOption o (tops fs ≡ []) (λ f. (below : List Begun) × (tops fs ≡ begun_of f.now ∷ below))
top_behind fs None e = top_of fs None e
top_behind fs (Some f) e = top_of fs (Some f.now) e

pub returns : goal.returns
returns c = top_behind c.args.stack.now c.last.result c.last.ensures.value
