use Rattle.yw_restore.proofs.OfParts.{kept_parts}
use Rattle.yw_restore.proofs.laws.parts_are_kept.Goals as goal

pub returns : goal.returns
returns c = kept_parts
