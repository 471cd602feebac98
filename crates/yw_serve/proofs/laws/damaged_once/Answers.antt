use Rattle.yw_serve.proofs.OpenLaws as laws
use Rattle.yw_serve.proofs.laws.damaged_once.Goals as goal

pub returns : goal.returns
returns c = laws.damaged_once
