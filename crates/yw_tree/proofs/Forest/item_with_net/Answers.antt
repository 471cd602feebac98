use Rattle.std.proofs.Common.{None, Some, arith, length, subst, ◌≡◌, ◌≤◌}
use Rattle.std.specs.Prelude.{MatchOption}
use Rattle.yw_state.specs.Identity.{Ident}
use Rattle.yw_base.specs.Identity.{parent}
use Rattle.yw_tree.proofs.Forest.item_with_net.Goals as goal
use Rattle.yw_tree.proofs.Parents.{identity_short}
use Rattle.yw_tree.specs.Forest.{item_of}
use Rattle.yw_tree.specs.Places.{net_at}

pub returns : goal.returns
returns c = λ b.
    let f = c.args.self.now in
    let l = identity_short c.args.id.now c.numbers.ensures.identity in
    let numbers = c.numbers.ensures.numbers in
    let fits : length c.args.id.now ≤ 41 = omega arith in
    subst (λ (i : Ident). length i ≤ 41 → MatchOption c.item_in_net.result (item_of f i ≡ None) (λ found. (item_of f i ≡ Some found.0.now) × (net_at f (parent i) ≡ Some found.1.now)))
    numbers (c.item_in_net.ensures b) fits
