use Rattle.yw_tree.proofs.Parents.{first_read}
use Rattle.yw_tree.proofs.numbers.case_number.Goals as goal

pub returns : goal.returns
returns c = first_read c.args.id.now c.requires
