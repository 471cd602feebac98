use Rattle.yw_known.proofs.Names as names
use Rattle.yw_known.proofs.laws.load_keeps_sites.Goals as goal

pub returns : goal.returns
returns c = names.load_keeps_sites
