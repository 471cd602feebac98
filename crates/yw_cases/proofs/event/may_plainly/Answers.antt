use Rattle.yw_cases.proofs.event.may_plainly.Goals as goal

pub may_suspend-requires : goal.may_suspend-requires
may_suspend-requires c = c.requires.stands.held

pub may_continue-requires : goal.may_continue-requires
may_continue-requires c = c.requires.stands.held
