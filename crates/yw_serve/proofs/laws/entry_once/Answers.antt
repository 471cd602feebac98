use Rattle.yw_codec.proofs.Counts.{same_entry}
use Rattle.yw_serve.proofs.laws.entry_once.Goals as goal

pub returns : goal.returns
returns c = same_entry
