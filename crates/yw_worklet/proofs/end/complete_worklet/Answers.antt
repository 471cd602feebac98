use Rattle.std.proofs.Common.{None, Some, ap, sym, ◌∙◌, ◌≡◌}
use Rattle.std.specs.Option.{option_copied_mut}
use Rattle.yw_tree.specs.Forest.{item_of}
use Rattle.yw_worklet.proofs.Ended.{item_stays, worklet_completed}
use Rattle.yw_worklet.proofs.end.complete_worklet.Goals as goal

pub returns-in-Some-clause-ok : goal.returns-in-Some-clause-ok
returns-in-Some-clause-ok c =
    let f = c.args.forest.now in
    let j = c.args.j.now in
    let g = c.bare_item.new.self in
    let node = c.in-Some.node.now in
    let found : item_of g j ≡ Some node = sym (rw c.in-Some.is at c.item_mut.ensures.value) in
    worklet_completed f c.requires.boxed c.args.item.now c.args.worklet.now j c.item_mut.ensures.identity c.in_ok-made.made c.in_ok-made.ensures g c.bare_item.ensures.sites c.bare_item.ensures.kept
    c.args.due node c.complete.new.node found c.complete.ensures

pub returns-in_default-clause-ok : goal.returns-in_default-clause-ok
returns-in_default-clause-ok c =
    let f = c.args.forest.now in
    let j = c.args.j.now in
    let g = c.bare_item.new.self in
    let gone : item_of g j ≡ None = sym c.item_mut.ensures.value ∙ ap option_copied_mut c.in_default.is in
    absurd
    (item_stays f c.requires.boxed c.args.item.now c.args.worklet.now j c.item_mut.ensures.identity c.in_ok-made.made c.in_ok-made.ensures g c.bare_item.ensures.sites c.bare_item.ensures.kept gone)
