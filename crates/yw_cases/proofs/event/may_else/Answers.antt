use Rattle.std.proofs.Common.{subst}
use Rattle.yw_cases.proofs.event.may_else.Goals as goal
use Rattle.yw_standing.specs.State.{state_of}
use Rattle.yw_standing.specs.Tried.{TellsLeads}
use Rattle.yw_walk.proofs.Plainly.{nothing_of}

pub returns-then-branch : goal.returns-then-branch
returns-then-branch c = record {
  leads = subst (TellsLeads c.args.standing.now c.args.event.now) c.if-branch.true c.in_ok-may_plainly.ensures;
  computed = nothing_of (state_of c.args.standing.now) c.args.event.now c.requires.computed;
}

pub returns : goal.returns
returns c = subst (TellsLeads c.args.standing.now c.args.event.now) c.if-branch.false c.in_ok-may_plainly.ensures
