use Rattle.std.proofs.Common.{[], ◌∷◌}
use Rattle.yw_tree.proofs.OnResults.{on_ok}
use Rattle.yw_worklist.proofs.Reaching.{by_end}
use Rattle.yw_worklist.proofs.touched.add_taken.Goals as goal

pub returns-in_ok-case_ident-in-Finish : goal.returns-in_ok-case_ident-in-Finish
returns-in_ok-case_ident-in-Finish c =
    let case = c.in-Finish.case in
    on_ok c.add_under_found-in-Finish.result _ _ c.add_under_found-in-Finish.ensures
    (λ adds. by_end c.args.places.now c.args.forest.now c.args.ids.now c.add_under_found-in-Finish.new.ids c.args.event.now case c.in-Finish.is
    (adds (case ∷ []) c.in_ok-case_ident-in-Finish.ensures))
