use Rattle.std.proofs.Common.{◌≡◌, take, map}
use Rattle.yw_accept.specs.Built.{out_of}
use Rattle.yw_build.proofs.values.outs_of.Given as goal

abbrev pub invariant-loop-parameter : goal.invariant-loop-parameter
invariant-loop-parameter l = l.outs ≡ map out_of (take l.parameter-index l.said)
