use Rattle.yw_steps.proofs.exiting.case_number.Goals as goal
use Rattle.yw_tree.proofs.Parents.{first_read}

pub returns : goal.returns
returns c = first_read c.args.id.now c.requires
