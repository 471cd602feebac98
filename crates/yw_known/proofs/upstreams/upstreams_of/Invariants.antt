use Rattle.std.proofs.Common.{length, ◌≡◌}
use Rattle.yw_known.proofs.Rows.{EachUpstream}
use Rattle.yw_known.proofs.upstreams.upstreams_of.Given as goal

abbrev pub invariant-loop-net : goal.invariant-loop-net
invariant-loop-net l = (length l.ups ≡ l.net-index) × EachUpstream l.net-items l.ups
