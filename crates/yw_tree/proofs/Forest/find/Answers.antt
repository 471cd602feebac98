use Rattle.std.proofs.Common.{ap, arith, length, sym, ◌∙◌, ◌≤◌}
use Rattle.std.specs.Prelude.{option_map}
use Rattle.yw_tree.specs.Spots.{part_at, part_site}
use Rattle.yw_tree.proofs.FindLaw.{find_is}
use Rattle.yw_tree.proofs.Parents.{identity_short}
use Rattle.yw_base.proofs.Parents.{identity_long}
use Rattle.yw_tree.proofs.Forest.find.Goals as goal

pub returns-clause-site : goal.returns-clause-site
returns-clause-site c = λ names b.
    let f = c.args.self.now in
    let id = c.args.id.now in
    let i = c.numbers.ensures.identity in
    let l = identity_short id i in
    let fits : length id ≤ 41 = omega arith in
    find_is names f b id (identity_long id i) fits ∙ sym (ap (option_map (part_site names)) (c.find_by.ensures ∙ ap (part_at f) c.numbers.ensures.numbers))
