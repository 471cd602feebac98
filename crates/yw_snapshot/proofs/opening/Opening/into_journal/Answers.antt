use Rattle.yw_snapshot.proofs.Standing.{current_at}
use Rattle.yw_snapshot.proofs.opening.Opening.into_journal.Goals as goal

pub returns-clause-current : goal.returns-clause-current
returns-clause-current c = λ i records is. current_at c.args.self i records c.args.limit is c.requires.done
