use Rattle.std.proofs.Common.{subst, sym}
use Rattle.yw_known.proofs.Loads.{known_loaded}
use Rattle.yw_known.proofs.known.Known.load.Goals as goal
use Rattle.yw_known.specs.Upstreams.{AreKnown}
use Rattle.yw_library.specs.Holdings.{Holdings}

pub invariant_of-self-2 : goal.invariant_of-self-2
invariant_of-self-2 c =
    let rows = c.keep_upstreams.new.rows in
    subst (λ (z : Holdings). AreKnown z.specs rows) (sym c.in_ok-keep_upstreams.ensures.same)
    (known_loaded c.self.inside.library c.load.new.self c.self.inside.rows rows c.in_ok-name.name c.args.text.now c.in_ok-name.ensures.place c.in_ok-name.ensures.ok c.self.invariant
    c.in_ok-keep_upstreams.ensures.ok)
