use Rattle.std.proofs.Common.{[]}
use Rattle.yw_check_names.proofs.SeenLemmas.{knows_none}
use Rattle.yw_check_names.proofs.seen.set_of.Goals as goal

pub returns : goal.returns
returns g c = c.in_ok-add_all.ensures.knows [] (knows_none c.new-set.result c.new-set.ensures.empty)
