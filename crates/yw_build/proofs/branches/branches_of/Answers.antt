use Rattle.yw_accept.specs.Built.{IsBranch}
use Rattle.yw_build.specs.Expressions.{BranchIsReady}
use Rattle.yw_build.proofs.ZipLemmas.{item_of, zip_next}
use Rattle.yw_build.proofs.branches.branches_of.Goals as goal

pub branch_of-requires-clause-ready : goal.branch_of-requires-clause-ready
branch_of-requires-clause-ready c =
    item_of (BranchIsReady c.args.numbers.now.said.now c.args.task.now) c.args.task.now.branch c.as_slice-branch-items.result.now c.loop-branch.branch-index c.branch-item.result c.as_slice-branch-items.ensures c.loop-branch-test.true c.branch-item.is
    c.requires.ready

pub loop-branch-preserved : goal.loop-branch-preserved
loop-branch-preserved c =
    zip_next (IsBranch c.args.numbers.now.said.now c.args.task.now) c.args.task.now.branch c.as_slice-branch-items.result.now c.loop-branch.branch-index c.branch-item.result c.loop-branch.branches c.push.new.self c.in_ok-branch_of.field-0
    c.as_slice-branch-items.ensures c.loop-branch-test.true c.branch-item.is c.loop-branch.invariant c.in_ok-push.ensures.ok c.in_ok-branch_of.ensures
