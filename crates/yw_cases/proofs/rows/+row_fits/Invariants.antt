use Rattle.std.proofs.Common.{length}
use Rattle.yw_cases.proofs.rows.+row_fits.Given as goal

abbrev pub decreases-row_fits : goal.decreases-row_fits
decreases-row_fits l = length l.params.now
