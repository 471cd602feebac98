use Rattle.std.proofs.Common.{◌≡◌, [], Some, sym}
use Rattle.yw_tree.specs.Forest.{item_of}
use Rattle.yw_tree.proofs.ForestLaw.{identity_in_case}
use Rattle.yw_tree.proofs.NetLaw.{bared}
use Rattle.yw_tree.proofs.Forest.bare_item.Goals as goal

pub returns-in-Some-clause-sites : goal.returns-in-Some-clause-sites
returns-in-Some-clause-sites c =
    let f = c.args.self.now in
    let id = c.args.id.now in
    let old = c.in-Some.node.now in
    let e : item_of f id ≡ Some old = sym (rw c.in-Some.is at c.item_mut.ensures.value) in
    λ names. (bared names f id old c.requires.boxed (identity_in_case id c.item_mut.ensures.identity) e c.end_net_and_run.new.node c.end_net_and_run.ensures).0

pub returns-in-Some-clause-kept : goal.returns-in-Some-clause-kept
returns-in-Some-clause-kept c =
    let f = c.args.self.now in
    let id = c.args.id.now in
    let old = c.in-Some.node.now in
    let e : item_of f id ≡ Some old = sym (rw c.in-Some.is at c.item_mut.ensures.value) in
    (bared (λ k. []) f id old c.requires.boxed (identity_in_case id c.item_mut.ensures.identity) e c.end_net_and_run.new.node c.end_net_and_run.ensures).1
