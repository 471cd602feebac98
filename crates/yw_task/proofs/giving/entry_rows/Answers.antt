use Rattle.std.proofs.Common.{List, Option, [], ap, subst, sym, ◌∙◌}
use Rattle.std.specs.Prelude.{unwrap_or}
use Rattle.yw_state.specs.Passing.{entry_values}
use Rattle.yw_state.specs.Values.{Row}
use Rattle.yw_task.proofs.giving.entry_rows.Goals as goal
use Rattle.yw_task.specs.Giving.{AreRows}

pub returns-in-Some : goal.returns-in-Some
returns-in-Some c =
    let are = subst (AreRows (entry_values c.args.task.now c.args.vals.now)) c.in-Some.is c.in_ok-rows.ensures in
    sym (ap (λ (o : Option (List Row)). unwrap_or o []) are)

pub returns-in-None : goal.returns-in-None
returns-in-None c =
    let are = subst (AreRows (entry_values c.args.task.now c.args.vals.now)) c.in-None.is c.in_ok-rows.ensures in
    c.new.ensures.items ∙ sym (ap (λ (o : Option (List Row)). unwrap_or o []) are)
