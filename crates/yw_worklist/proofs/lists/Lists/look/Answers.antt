use Rattle.yw_tree.proofs.OnResults.{on_ok}
use Rattle.yw_worklist.proofs.Looking.{looked}
use Rattle.yw_worklist.proofs.lists.Lists.look.Goals as goal

pub returns : goal.returns
returns c =
    on_ok c.put.result _ _ c.put.ensures
    (λ puts. looked c.args.known.now c.args.forest.now c.args.self.now c.put.new.self c.args.at.now c.in_ok-seen.seen puts c.in_ok-seen.ensures)
