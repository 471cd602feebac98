use Rattle.yw_breaks.proofs.Launches.{launches_unknown}
use Rattle.yw_breaks.proofs.launch.launch_front.Goals as goal
use Rattle.yw_texts.specs.Texts.{reader}

pub returns-in-None : goal.returns-in-None
returns-in-None c = λ next gs f s h drawn. launches_unknown reader c.args.known.now f s h c.args.name.now gs c.in-None.ensures
