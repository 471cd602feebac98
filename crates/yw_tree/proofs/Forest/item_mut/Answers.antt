use Rattle.std.proofs.Common.{ap, refl, ◌∙◌}
use Rattle.std.specs.Option.{ghost_name_of}
use Rattle.yw_tree.specs.Forest.{item_of, item_replaced}
use Rattle.yw_tree.proofs.ForestLaw.{identity_in_case}
use Rattle.yw_tree.proofs.Lent.{item_lent}
use Rattle.yw_tree.proofs.Same.{same_loan}
use Rattle.yw_tree.proofs.Forest.item_mut.Goals as goal

pub returns : goal.returns
returns c =
    let f = c.args.self.now in
    let id = c.args.id.now in
    let numbers = c.numbers.ensures.numbers in
    let i = c.numbers.ensures.identity in (
      same_loan (ghost_name_of c.item_by.result) _ _ _ _ (λ w. ap (λ k. item_replaced f k w) numbers) refl,
      record { writes_back = tt; value = c.item_by.ensures.value ∙ ap (item_of f) numbers; placed = item_lent f id (identity_in_case id i); identity = i },
    )
