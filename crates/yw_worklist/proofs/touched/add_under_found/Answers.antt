use Rattle.yw_tree.proofs.OnResults.{on_ok}
use Rattle.yw_worklist.proofs.Reaching.{all_reached, found_reached}
use Rattle.yw_worklist.proofs.touched.add_under_found.Goals as goal

pub returns-in-Some : goal.returns-in-Some
returns-in-Some c =
    on_ok c.add_under.result _ _ c.add_under.ensures
    (λ adds. found_reached c.args.places.now c.args.forest.now c.args.ids.now c.add_under.new.ids c.args.found c.in-Some.top c.in-Some.is adds)

pub returns-in-None : goal.returns-in-None
returns-in-None c =
    on_ok c.add_placed.result _ _ c.add_placed.ensures
    (λ adds top iff. all_reached c.args.places.now c.args.forest.now c.args.ids.now c.add_placed.new.ids top adds)
