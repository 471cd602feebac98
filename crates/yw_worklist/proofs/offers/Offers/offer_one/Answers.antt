use Rattle.std.proofs.Common.{sym, ◌∙◌}
use Rattle.yw_tree.proofs.OnResults.{on_ok}
use Rattle.yw_worklist.proofs.Offering.{one_came, one_there}
use Rattle.yw_worklist.proofs.offers.Offers.offer_one.Goals as goal

pub returns-then-has_by : goal.returns-then-has_by
returns-then-has_by c =
    one_there c.args.self.now c.args.self.now c.args.at.now c.args.before.now c.args.work.now (sym c.has_by.ensures ∙ c.if-has_by.true)

pub returns : goal.returns
returns c =
    on_ok c.add.result _ _ c.add.ensures
    (one_came c.args.self.now c.add.new.self c.args.at.now c.args.before.now c.args.work.now (sym c.has_by.ensures ∙ c.if-has_by.false))
