use Rattle.std.proofs.Common.{◌≡◌, true, map, drop}
use Rattle.yw_read.specs.declared.raw.RawIn.{RawIn}
use Rattle.yw_accept.specs.Nodes.{is_name_among}
use Rattle.yw_build.proofs.many.number_in.Given as goal

abbrev pub invariant-loop-number : goal.invariant-loop-number
invariant-loop-number l = is_name_among (map (λ (p : RawIn). p.name) (drop l.number l.ins)) l.name ≡ true
