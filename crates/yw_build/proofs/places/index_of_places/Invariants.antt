use Rattle.std.proofs.Common.{take, map}
use Rattle.yw_spec.specs.Net.{place_text}
use Rattle.yw_accept.specs.Index.{IsIndexOf}
use Rattle.yw_build.proofs.places.index_of_places.Given as goal

abbrev pub invariant-loop-number : goal.invariant-loop-number
invariant-loop-number l = IsIndexOf (map place_text (take l.number l.places)) l.index
