use Rattle.std.specs.List.{list_any}
use Rattle.std.specs.Prelude.{◌&&◌}
use Rattle.yw_idle.specs.Warms.{warms}
use Rattle.yw_state.specs.Identity.{same}
use Rattle.yw_tree.proofs.OnResults.{on_ok}
use Rattle.yw_worklist.proofs.Warming.{then_adds}
use Rattle.yw_worklist.proofs.touched.add_touched.Goals as goal
use Rattle.yw_worklist.specs.Lists.{has_place}
use Rattle.yw_worklist.specs.Touched.{takes}

pub returns : goal.returns
returns c =
    let e = c.args.event.now in
    on_ok c.add_taken.result _ _ c.add_taken.ensures
    (then_adds c.args.ids.now c.add_warm.new.ids c.add_taken.new.ids (λ j. list_any (same j) (warms e)) (λ j. has_place c.args.places.now j && takes c.args.forest.now e j)
    c.in_ok-add_warm.ensures)
