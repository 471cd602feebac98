use Rattle.yw_check_names.proofs.SeenLemmas.{adds}
use Rattle.yw_check_names.proofs.seen.add.Goals as goal

pub returns : goal.returns
returns c = adds c.args.set.now c.insert.new.self c.args.name c.in_ok-added.added c.in_ok-added.ensures.added c.in_ok-added.ensures.updates
