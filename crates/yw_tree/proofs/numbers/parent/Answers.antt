use Rattle.std.proofs.Common.{◌≡◌, ◌-◌, take, length, arith}
use Rattle.std.proofs.lemmas.Grind.{common_steps}
use Rattle.yw_base.specs.Identity.{parent}
use Rattle.yw_base.proofs.Parents.{parent_is}
use Rattle.yw_tree.proofs.numbers.parent.Goals as goal

pub returns : goal.returns
returns c =
    let e : parent c.args.id.now ≡ take (length c.args.id.now - 1) c.args.id.now = parent_is c.args.id.now c.requires in
    rw e (grind (arith, common_steps))
