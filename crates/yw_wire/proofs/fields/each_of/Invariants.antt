use Rattle.std.proofs.Common.{◌≡◌, ◌++◌, drop, option_map}
use Rattle.serde_json.specs.View.{items_view}
use Rattle.yw_lines.specs.Values.{each_of}
use Rattle.yw_wire.proofs.fields.each_of.Given as goal

-- the items so far and those of what is left are all of the kind
abbrev pub invariant-loop-value : goal.invariant-loop-value
invariant-loop-value g l = option_map (λ xs. l.items ++ xs) (each_of g.T.FromValue.kind (items_view (drop l.value-index l.values))) ≡ each_of g.T.FromValue.kind (items_view l.values)
