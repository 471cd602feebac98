use Rattle.std.proofs.Common.{◌≡◌, Some, sym, ap, ◌∙◌}
use Rattle.std.specs.Option.{ghost_name_of}
use Rattle.yw_tree.specs.Places.{net_of_run, over_run_net, run_of}
use Rattle.yw_tree.proofs.RunBack.{run_back}
use Rattle.yw_tree.proofs.Same.{same_loan}
use Rattle.yw_tree.proofs.parts.run_net_by.Goals as goal

pub returns : goal.returns
returns c =
    let f = c.args.forest.now in
    let id = c.args.id.now in
    let r = c.in_ok-found.found.now in
    let e : run_of f id ≡ Some r = sym c.in_ok-found.ensures.value in (
      same_loan (ghost_name_of c.run_net_mut.result) _ _ _ _ (λ w. ap (over_run_net f id w) (sym e)) (run_back f id r e),
      record { writes_back = tt; value = c.run_net_mut.ensures.value ∙ ap net_of_run (sym e) },
    )
