use Rattle.std.proofs.Common.{◌≡◌}
use Rattle.serde_json.specs.View.{members_view}
use Rattle.yw_proof.specs.Weights.{keys_of, unknown_among}
use Rattle.yw_proof.proofs.weights.unknown_among.Given as goal

-- the first of what is left is the first of all
abbrev pub invariant-loop-key : goal.invariant-loop-key
invariant-loop-key l = unknown_among l.names (keys_of (members_view l.key-iterator)) ≡ unknown_among l.names (keys_of (members_view l.weights.entries))
