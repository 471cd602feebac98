use Rattle.std.proofs.Common.{◌≡◌, [], Some, sym}
use Rattle.yw_tree.specs.Forest.{item_of}
use Rattle.yw_tree.proofs.ForestLaw.{identity_in_case}
use Rattle.yw_tree.proofs.Parents.{identity_short}
use Rattle.yw_base.proofs.Parents.{identity_long}
use Rattle.yw_tree.proofs.RunComes.{item_idle, run_comes_to_item}
use Rattle.yw_tree.proofs.grow.add_item_run.Goals as goal

pub item_by-requires : goal.item_by-requires
item_by-requires c = identity_long c.args.id.now c.requires.identity

pub returns-in-Some-clause-sites : goal.returns-in-Some-clause-sites
returns-in-Some-clause-sites c =
    let f = c.args.forest.now in
    let id = c.args.id.now in
    let old = c.in-Some.node.now in
    let run = c.args.run in
    let m = c.requires.comes in
    let e : item_of f id ≡ Some old = sym (rw c.in-Some.is at c.item_by.ensures.value) in
    λ names.
    (run_comes_to_item f c.requires.boxed id (identity_short id c.requires.identity) run m.child m.vacant m.without_net (identity_in_case id c.requires.identity) old c.set_item_run.new.node e (item_idle f id old c.requires.below e m.idle) c.set_item_run.ensures names).0

pub returns-in-Some-clause-kept : goal.returns-in-Some-clause-kept
returns-in-Some-clause-kept c =
    let f = c.args.forest.now in
    let id = c.args.id.now in
    let old = c.in-Some.node.now in
    let run = c.args.run in
    let m = c.requires.comes in
    let e : item_of f id ≡ Some old = sym (rw c.in-Some.is at c.item_by.ensures.value) in
    (run_comes_to_item f c.requires.boxed id (identity_short id c.requires.identity) run m.child m.vacant m.without_net (identity_in_case id c.requires.identity) old c.set_item_run.new.node e (item_idle f id old c.requires.below e m.idle) c.set_item_run.ensures (λ k. [])).1
