use Rattle.std.proofs.Common.{◌≡◌, ◌++◌, drop, option_map}
use Rattle.serde_json.specs.View.{items_view}
use Rattle.yw_lines.specs.Values.{each_of, short_of}
use Rattle.yw_wire.proofs.values.texts_in.Given as goal

-- the texts so far and those of what is left are all short
abbrev pub invariant-loop-value : goal.invariant-loop-value
invariant-loop-value l = option_map (λ texts. l.texts ++ texts) (each_of short_of (items_view (drop l.value-index l.values))) ≡ each_of short_of (items_view l.values)
