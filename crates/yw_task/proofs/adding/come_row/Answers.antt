use Rattle.std.proofs.Common.{List, subst}
use Rattle.std.proofs.lemmas.Result.{IfOk-weaker}
use Rattle.yw_state.specs.Values.{Row}
use Rattle.yw_task.proofs.adding.come_row.Goals as goal
use Rattle.yw_task.specs.Room.{GetsListAndItems}

pub returns : goal.returns
returns c =
    IfOk-weaker c.add_items.result _ _
    (λ _ gets. subst (λ (rows : List Row). GetsListAndItems c.args.at.now c.args.t c.args.due c.args.n rows c.args.state.now c.add_items.new.state) c.in_ok-alone.ensures gets) c.add_items.ensures
