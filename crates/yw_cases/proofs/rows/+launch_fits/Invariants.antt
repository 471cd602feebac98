use Rattle.std.proofs.Common.{length}
use Rattle.yw_cases.proofs.rows.+launch_fits.Given as goal

abbrev pub decreases-launch_fits : goal.decreases-launch_fits
decreases-launch_fits l = length l.vars.now
