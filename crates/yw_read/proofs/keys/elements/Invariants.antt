use Rattle.std.proofs.Common.{◌≡◌, drop}
use Rattle.toml.specs.View.{items_view}
use Rattle.yw_read.specs.Keys.{elements}
use Rattle.yw_read.proofs.KeyLemmas.{with_front}
use Rattle.yw_read.proofs.keys.elements.Given as goal

-- the items so far and what is left say what all say
abbrev pub invariant-loop-k : goal.invariant-loop-k
invariant-loop-k g l = with_front l.items (elements g.T.FromTable.shape l.key l.k (items_view (drop l.k l.values))) ≡ elements g.T.FromTable.shape l.key 0 (items_view l.values)
