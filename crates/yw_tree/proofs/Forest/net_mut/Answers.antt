use Rattle.std.proofs.Common.{ap, refl, ◌∙◌}
use Rattle.std.specs.Option.{ghost_name_of}
use Rattle.yw_tree.specs.Places.{net_at, placed_net}
use Rattle.yw_tree.proofs.NetAt.{net_here}
use Rattle.yw_base.proofs.Parents.{identity_long}
use Rattle.yw_tree.proofs.Same.{same_loan}
use Rattle.yw_tree.proofs.Forest.net_mut.Goals as goal

pub returns : goal.returns
returns c =
    let f = c.args.self.now in
    let id = c.args.id.now in
    let numbers = c.numbers.ensures.numbers in
    let i = c.numbers.ensures.identity in (
      same_loan (ghost_name_of c.net_by.result) _ _ _ _ (λ w. ap (λ k. placed_net f k w) numbers) refl,
      record { writes_back = tt; value = c.net_by.ensures.value ∙ ap (net_at f) numbers; placed = λ b s e. net_here f id s b (identity_long id i) e; identity = i },
    )
