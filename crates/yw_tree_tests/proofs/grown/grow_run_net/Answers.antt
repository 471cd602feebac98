use Rattle.yw_tree_tests.proofs.Growing.{grows_net}
use Rattle.yw_tree_tests.proofs.grown.grow_run_net.Goals as goal

pub returns : goal.returns
returns c = λ yes. grows_net c.args.forest.now c.attach_run_net.new.self c.args.n c.args.at.now _ c.requires c.attach_run_net.ensures.sites c.attach_run_net.ensures.kept
