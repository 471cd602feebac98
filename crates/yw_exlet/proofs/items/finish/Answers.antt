use Rattle.std.proofs.Common.{Some, sym, ◌≡◌}
use Rattle.yw_exlet.proofs.OwnSite.{made_short}
use Rattle.yw_tree.specs.Forest.{item_of}
use Rattle.yw_exlet.proofs.items.finish.Goals as goal

pub returns-in-Some-clause-sites : goal.returns-in-Some-clause-sites
returns-in-Some-clause-sites c =
    let f = c.args.forest.now in
    let j = c.args.j.now in
    let old = c.in-Some.node.now in
    let e : item_of f j ≡ Some old = sym (rw c.in-Some.is at c.item_mut.ensures.value) in
    (made_short f j old c.end_short.new.node c.requires.boxed c.item_mut.ensures.identity e c.args.made c.end_short.ensures).0

pub returns-in-Some-clause-boxed : goal.returns-in-Some-clause-boxed
returns-in-Some-clause-boxed c =
    let f = c.args.forest.now in
    let j = c.args.j.now in
    let old = c.in-Some.node.now in
    let e : item_of f j ≡ Some old = sym (rw c.in-Some.is at c.item_mut.ensures.value) in
    (made_short f j old c.end_short.new.node c.requires.boxed c.item_mut.ensures.identity e c.args.made c.end_short.ensures).1
