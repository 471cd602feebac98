use Rattle.std.proofs.Common.{ap, refl, ◌∙◌}
use Rattle.std.specs.Option.{ghost_name_of}
use Rattle.yw_tree.specs.Places.{placed_run, run_of}
use Rattle.yw_tree.proofs.Lent.{run_lent}
use Rattle.yw_base.proofs.Parents.{identity_long}
use Rattle.yw_tree.proofs.Same.{same_loan}
use Rattle.yw_tree.proofs.Forest.run_mut.Goals as goal

pub returns : goal.returns
returns c =
    let f = c.args.self.now in
    let id = c.args.id.now in
    let numbers = c.numbers.ensures.numbers in
    let i = c.numbers.ensures.identity in (
      same_loan (ghost_name_of c.run_by.result) _ _ _ _ (λ w. ap (λ k. placed_run f k w) numbers) refl,
      record { writes_back = tt; value = c.run_by.ensures.value ∙ ap (run_of f) numbers; placed = run_lent f id (identity_long id i); identity = i },
    )
