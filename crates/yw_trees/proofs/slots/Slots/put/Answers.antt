use Rattle.std.proofs.Common.{Some, subst}
use Rattle.std.specs.BTreeMap.{Updates}
use Rattle.yw_trees.proofs.SlotLemmas.{put_slot}
use Rattle.yw_trees.proofs.slots.Slots.put.Goals as goal
use Rattle.yw_trees.specs.Slots.{by_numbers}
use Rattle.yw_trees.specs.declared.slots.Key.{Key}

pub returns-clause-ok : goal.returns-clause-ok
returns-clause-ok c =
    put_slot c.args.self.now (record { numbers = c.insert.new.self }) c.args.owner c.args.kind c.args.number
    (subst (λ (k : Key). Updates by_numbers c.args.self.now.numbers c.insert.new.self k (Some c.args.number)) c.key_of.ensures c.in_ok-insert.ensures.updates)
