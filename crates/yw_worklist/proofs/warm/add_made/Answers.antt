use Rattle.std.proofs.Common.{◌∷◌, []}
use Rattle.yw_state.specs.declared.event.Event.TheVariants as events
use Rattle.yw_tree.proofs.OnResults.{on_ok}
use Rattle.yw_worklist.proofs.Warming.{of_kind}
use Rattle.yw_worklist.proofs.warm.add_made.Goals as goal

pub returns-in_ok-case_ident-in-Launch : goal.returns-in_ok-case_ident-in-Launch
returns-in_ok-case_ident-in-Launch c =
    let case = c.in-Launch.case in
    on_ok c.add_found.result _ _ c.add_found.ensures
    (λ adds. of_kind c.args.ids.now c.add_found.new.ids c.args.event.now (events.Launch case c.in-Launch.spec c.in-Launch.values) c.in-Launch.is
    (adds (case ∷ []) c.in_ok-case_ident-in-Launch.ensures))
