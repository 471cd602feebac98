use Rattle.yw_rows.proofs.Showing as showing
use Rattle.yw_rows.proofs.told.shown_is_told.Goals as goal

pub returns : goal.returns
returns c = showing.row_told
