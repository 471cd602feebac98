-- Values in the place of others.
use Rattle.std.specs.Prelude.{List, slice_set}
use Rattle.yw_base.specs.declared.value.Value.{Value}
use Rattle.yw_expr.specs.declared.row.Put.{Put}

abbrev pub put_in : List Value → Put → List Value
put_in row p = slice_set row p.at p.value
