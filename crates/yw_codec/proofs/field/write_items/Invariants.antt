use Rattle.std.proofs.Common.{◌≡◌, ◌++◌, take, true}
use Rattle.std.specs.List.{flat_map, list_all}
use Rattle.yw_codec.proofs.field.write_items.Given as goal

abbrev pub invariant-loop-item : goal.invariant-loop-item
invariant-loop-item g l = (l.out.items ≡ l.fn.out.items ++ flat_map g.T.Field.bytes (take l.item-index l.items)) × (list_all g.T.Field.is_field (take l.item-index l.items) ≡ true)
