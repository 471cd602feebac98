use Rattle.std.proofs.Common.{subst, sym, ◌∙◌}
use Rattle.yw_walk.proofs.Inner.{its_net}
use Rattle.yw_walk.proofs.nets.state_at.Goals as goal
use Rattle.yw_walk.specs.Finds.{IsItemAt}

pub returns-in-Some : goal.returns-in-Some
returns-in-Some c = λ known s held is.
    let at = c.args.at.now in
    let here = subst (IsItemAt known c.args.forest.now at) c.in-Some.is is s held in
    c.net_of.ensures ∙ sym (its_net c.args.forest.now at held.boxed _ here.found)
