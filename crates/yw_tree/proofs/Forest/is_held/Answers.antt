use Rattle.std.proofs.Common.{ap, arith, length, ◌∙◌, ◌≤◌}
use Rattle.yw_tree.specs.Holding.{held_by}
use Rattle.yw_tree.proofs.ForestLaw.{identity_in_case}
use Rattle.yw_tree.proofs.HeldWalk.{held_is}
use Rattle.yw_tree.proofs.Parents.{identity_short}
use Rattle.yw_tree.proofs.Forest.is_held.Goals as goal

pub returns : goal.returns
returns c = λ names s b is.
    let f = c.args.self.now in
    let id = c.args.id.now in
    let i = c.numbers.ensures.identity in
    let l = identity_short id i in
    let fits : length id ≤ 41 = omega arith in
    c.is_held.ensures ∙ ap (held_by f) c.numbers.ensures.numbers ∙ held_is names id f s b (identity_in_case id i) fits is
