use Rattle.yw_tree.proofs.BaredBut.{item_there, not_a_case}
use Rattle.yw_base.proofs.Parents.{identity_long}
use Rattle.yw_tree.proofs.Forest.bare_but_run.Goals as goal

pub bare_but-requires-clause-long : goal.bare_but-requires-clause-long
bare_but-requires-clause-long c = rw c.numbers.ensures.numbers (identity_long c.args.id.now c.numbers.ensures.identity)

pub bare_but-requires-clause-below : goal.bare_but-requires-clause-below
bare_but-requires-clause-below c = rw c.numbers.ensures.numbers (not_a_case c.args.self.now c.args.id.now c.requires.alone)

pub bare_but-requires-clause-stands : goal.bare_but-requires-clause-stands
bare_but-requires-clause-stands c = rw c.numbers.ensures.numbers (item_there c.args.self.now c.args.id.now c.requires.alone c.requires.at_item)
