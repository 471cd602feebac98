use Rattle.std.proofs.Common.{sym, ◌∙◌}
use Rattle.yw_tree.proofs.OnResults.{on_ok}
use Rattle.yw_worklist.proofs.Offering.{one_kept, one_left}
use Rattle.yw_worklist.proofs.offers.Offers.withdraw_one.Goals as goal

pub returns-then-has_by : goal.returns-then-has_by
returns-then-has_by c =
    one_kept c.args.self.now c.args.self.now c.args.at.now c.args.work.now c.args.after.now (sym c.has_by.ensures ∙ c.if-has_by.true)

pub returns : goal.returns
returns c =
    on_ok c.remove.result _ _ c.remove.ensures
    (one_left c.args.self.now c.remove.new.self c.args.at.now c.args.work.now c.args.after.now (sym c.has_by.ensures ∙ c.if-has_by.false))
