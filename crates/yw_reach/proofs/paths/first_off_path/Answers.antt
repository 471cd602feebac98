use Rattle.yw_reach.proofs.PathLemmas.{first_off}
use Rattle.yw_reach.proofs.paths.first_off_path.Goals as goal

pub returns : goal.returns
returns c = first_off c.args.count c.args.flows.now c.args.input c.args.output c.in_ok-behind.behind c.in_ok-before.before c.first_lacking.result c.in_ok-behind.ensures c.in_ok-before.ensures c.first_lacking.ensures
