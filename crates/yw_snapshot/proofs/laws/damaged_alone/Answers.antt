use Rattle.yw_snapshot.proofs.FileAlone.{from_file_a, to_file_a}
use Rattle.yw_snapshot.proofs.laws.damaged_alone.Goals as goal

pub returns : goal.returns
returns g c = λ start opens i f place file_a. (from_file_a g.M.Means.meaning i f place file_a, to_file_a g.M.Means.meaning start opens i f place file_a)
