use Rattle.yw_serve.proofs.OpenLaws as laws
use Rattle.yw_serve.proofs.laws.held_or_damaged.Goals as goal

pub returns : goal.returns
returns c = laws.held_or_damaged
