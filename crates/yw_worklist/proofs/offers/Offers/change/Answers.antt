use Rattle.yw_tree.proofs.OnResults.{on_ok}
use Rattle.yw_worklist.proofs.Offering.{then_turns}
use Rattle.yw_worklist.proofs.offers.Offers.change.Goals as goal
use Rattle.yw_worklist.specs.Offers.{came, left}

pub returns : goal.returns
returns c =
    let before = c.args.before.now in
    let after = c.args.after.now in
    on_ok c.offer.result _ _ c.offer.ensures
    (then_turns c.args.self.now c.withdraw.new.self c.offer.new.self c.args.at.now (left before after) (came before after) c.in_ok-withdraw.ensures)
