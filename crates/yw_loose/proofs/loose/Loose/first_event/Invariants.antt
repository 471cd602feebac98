use Rattle.std.proofs.Common.{length}
use Rattle.yw_loose.proofs.Looking.{Looks}
use Rattle.yw_loose.proofs.loose.Loose.first_event.Given as goal

abbrev pub invariant-idents : goal.invariant-idents
invariant-idents l = Looks l.known l.forest l.n l.next l.fn.self l.self

abbrev pub decreases-idents : goal.decreases-idents
decreases-idents l = length l.self.idents.keys
