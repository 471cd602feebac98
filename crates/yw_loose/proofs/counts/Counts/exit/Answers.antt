use Rattle.std.proofs.Common.{Some, subst, sym}
use Rattle.std.specs.BTreeMap.{Updates}
use Rattle.yw_loose.proofs.Following.{exit_back}
use Rattle.yw_loose.proofs.counts.Counts.exit.Goals as goal
use Rattle.yw_loose.specs.declared.counts.Counts.{Counts}
use Rattle.yw_state.specs.Identity.{Ident}
use Rattle.yw_state.specs.Map.{lexical}

pub returns : goal.returns
returns c =
    let at = c.args.at.now in
    let mid : Counts = record { nets = c.remove.new.self } in
    let new : Counts = record { nets = c.insert.new.self } in
    exit_back c.args.forest.now at c.args.self.now mid new c.in-Some-net.net.now c.in-Some.counts c.counts_left.result (sym c.in-Some-net.ensures)
    (sym c.in-Some.ensures.value) c.counts_left.ensures c.in-Some.ensures.updates
    (subst (λ (i : Ident). Updates lexical mid.nets new.nets i (Some c.counts_left.result)) c.in_ok-copy.ensures c.in_ok-insert.ensures.updates)
