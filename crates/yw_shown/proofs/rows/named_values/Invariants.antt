use Rattle.std.proofs.Common.{◌≡◌, ◌++◌, map}
use Rattle.std.specs.Iterator.Adapters.{zip_first, zip_second}
use Rattle.std.specs.List.{zip}
use Rattle.std.specs.Slice.Iter.{iter_rest}
use Rattle.yw_shown.proofs.rows.named_values.Given as goal
use Rattle.yw_shown.specs.Rows.{named_value}

-- those so far, and what is left
abbrev pub invariant-loop-var : goal.invariant-loop-var
invariant-loop-var l =
    l.values ++ map named_value (zip (iter_rest (zip_first l.var-iterator)) (iter_rest (zip_second l.var-iterator))) ≡ map named_value (zip l.fn.vars l.fn.vals)
