use Rattle.yw_rdr.proofs.ItemValues.{same_values}
use Rattle.yw_rdr.proofs.laws.row_is_the_items.Goals as goal

pub returns : goal.returns
returns c = same_values
