use Rattle.yw_work.proofs.Exits.{leaves_open}
use Rattle.yw_work.proofs.exit_leaves_open.Goals as goal

pub returns : goal.returns
returns g c = λ s i t places said j name what by well ok all opens gone. leaves_open s well i t places said ok all j name what by opens gone
