use Rattle.yw_build.proofs.LayerLemmas.{var_found, var_missed}
use Rattle.yw_build.proofs.numbers.NetNumbers.var_called.Goals as goal

pub unreachable-requires : goal.unreachable-requires
unreachable-requires c = var_missed c.args.self.now.said.now c.args.name.now c.args.self.now.vars c.requires.numbers.vars c.in-None.ensures.place c.requires.is

pub returns : goal.returns
returns c = var_found c.args.self.now.said.now c.args.name.now c.args.self.now.vars c.in-Some.number c.requires.numbers.vars c.in-Some.ensures.place
