use Rattle.std.proofs.Common.{Some, sym, ◌≡◌}
use Rattle.yw_exlet.proofs.OwnSite.{item_becomes}
use Rattle.yw_exlet.proofs.own.write_at_item.Goals as goal
use Rattle.yw_tree.specs.Forest.{item_of}

pub returns-in-Some-clause-sites : goal.returns-in-Some-clause-sites
returns-in-Some-clause-sites c =
    let f = c.args.forest.now in
    let j = c.args.j.now in
    let old = c.in-Some.node.now in
    let e : item_of f j ≡ Some old = sym (rw c.in-Some.is at c.item_mut.ensures.value) in
    (item_becomes f j old c.write_item.new.node c.requires.boxed c.item_mut.ensures.identity e c.args.own c.write_item.ensures).0

pub returns-in-Some-clause-boxed : goal.returns-in-Some-clause-boxed
returns-in-Some-clause-boxed c =
    let f = c.args.forest.now in
    let j = c.args.j.now in
    let old = c.in-Some.node.now in
    let e : item_of f j ≡ Some old = sym (rw c.in-Some.is at c.item_mut.ensures.value) in
    (item_becomes f j old c.write_item.new.node c.requires.boxed c.item_mut.ensures.identity e c.args.own c.write_item.ensures).1
