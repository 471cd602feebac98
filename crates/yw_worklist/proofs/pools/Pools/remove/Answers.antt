use Rattle.std.proofs.Common.{btree_set_len, rules, sym, ◌∙◌}
use Rattle.std.specs.Prelude.{◌≡◌}
use Rattle.yw_worklist.proofs.Emptied.{emptied, none_in}
use Rattle.yw_worklist.proofs.pools.Pools.remove.Goals as goal

pub returns-else-not-is_empty : goal.returns-else-not-is_empty
returns-else-not-is_empty c =
    let none : btree_set_len c.remove.new.self ≡ 0 = search rules in
    emptied c.args.self.now.map c.swap_remove.new.self c.args.by c.args.id.now c.in-Some.set c.remove.new.self
    (sym c.swap_remove.ensures.value ∙ c.in-Some.is) c.swap_remove.ensures.updates.0 c.remove.ensures.updates.0 (none_in c.remove.new.self none)
