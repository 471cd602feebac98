use Rattle.yw_snapshot.proofs.Standing.{stands_again}
use Rattle.yw_snapshot.proofs.opening.Opening.rewind.Goals as goal

pub returns-clause-stands : goal.returns-clause-stands
returns-clause-stands c = λ i records is. stands_again c.args.self.now i records is
