use Rattle.std.proofs.Common.{◌∙◌, [], map, subst, sym}
use Rattle.std.proofs.lemmas.List.{take_all}
use Rattle.yw_restore.proofs.InOrder.{names_put, no_names}
use Rattle.yw_restore.proofs.order.ordered_names.Goals as goal
use Rattle.yw_restore.specs.Names.{AreNames}

pub loop-thing-init : goal.loop-thing-init
loop-thing-init g c = subst (AreNames []) (sym c.new-names.ensures.empty) no_names

pub loop-thing-preserved : goal.loop-thing-preserved
loop-thing-preserved g c =
    names_put g.T.Named.named c.args.things.now c.loop-thing.thing-index c.thing-item.result _ _ c.loop-thing.names.entries _
    c.loop-thing-test.true c.thing-item.is (c.as_str.ensures.text ∙ c.name-name.ensures) c.name-name.ensures c.loop-thing.invariant
    c.in_ok-insert.ensures.entries

pub returns : goal.returns
returns g c =
    subst (λ things. AreNames (map g.T.Named.named things) c.loop-thing.names.entries)
    (take_all c.loop-thing.thing-index c.args.things.now c.loop-thing-test.false) c.loop-thing.invariant
