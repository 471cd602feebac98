use Rattle.std.proofs.Common.{inl, ◌∙◌}
use Rattle.yw_enabled.proofs.EnterLaw.{comes_by_itself, stays_out}
use Rattle.yw_enabled.proofs.first.comes_in.Goals as goal

pub returns-then-is_manual-clause-none : goal.returns-then-is_manual-clause-none
returns-then-is_manual-clause-none c = λ none. inl (λ task at. c.is_manual.ensures task at ∙ c.if-is_manual.true)

pub returns-clause-some : goal.returns-clause-some
returns-clause-some c =
    comes_by_itself c.args.net.now c.args.state.now c.args.first c.args.chosen.now c.args.t
    (λ task at. c.is_manual.ensures task at ∙ c.if-is_manual.false) c.may_be_entered.result c.may_be_entered.ensures.some

pub returns-clause-none : goal.returns-clause-none
returns-clause-none c =
    stays_out c.args.net.now c.args.state.now c.args.first c.args.chosen.now c.args.t c.may_be_entered.result c.may_be_entered.ensures.none
