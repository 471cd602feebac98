use Rattle.std.proofs.Common.{◌≡◌}
use Rattle.std.specs.Map.{keys_of}
use Rattle.yw_read.proofs.KeyLemmas.{first_unknown}
use Rattle.yw_read.proofs.keys.unknown_key.Given as goal

abbrev pub invariant-loop-key : goal.invariant-loop-key
invariant-loop-key l = first_unknown l.known l.key-iterator ≡ first_unknown l.known (keys_of l.table.entries)
