use Rattle.std.specs.List.{flat_map}
use Rattle.yw_codec.specs.Forms.{Stands, are_counted}
use Rattle.yw_codec.proofs.field.read_items.Given as goal

abbrev pub invariant-loop-i : goal.invariant-loop-i
invariant-loop-i g l = Stands (are_counted g.T.Field.is_field l._i) (flat_map g.T.Field.bytes) l.fn.reader l.items l.reader
