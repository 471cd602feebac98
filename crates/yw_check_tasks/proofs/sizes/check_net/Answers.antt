use Rattle.std.proofs.Common.{◌≡◌, true}
use Rattle.yw_accept.specs.Faults.{of_net}
use Rattle.yw_accept.specs.Order.{Demand}
use Rattle.yw_accept.specs.Tasks.{is_small_net}
use Rattle.yw_check_tasks.specs.Steps.{TasksAreSmall}
use Rattle.yw_accept.proofs.Loops.{then_second}
use Rattle.yw_check_tasks.proofs.sizes.check_net.Goals as goal

pub returns : goal.returns
returns c =
    let small : is_small_net c.args.net.now ≡ true = cc in
    then_second (Demand (is_small_net c.args.net.now ≡ true) (of_net 12 c.args.net.now.name)) (TasksAreSmall c.args.net.now) small _ c.in_ok-found.ensures
