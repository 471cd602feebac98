use Rattle.std.proofs.Common.{◌≡◌, [], Some, refl, subst, sym}
use Rattle.std.specs.Prelude.{IsSomeAnd}
use Rattle.yw_tree.specs.Coming.{HasTask}
use Rattle.yw_tree.specs.Places.{net_at, placed_net}
use Rattle.yw_tree.specs.declared.Node.{out-Node}
use Rattle.yw_tree.proofs.ItemComes.{comes_last, item_comes}
use Rattle.yw_tree.proofs.OnResults.{on_ok}
use Rattle.yw_tree.proofs.Parents.{identity_short}
use Rattle.yw_base.proofs.Parents.{identity_long}
use Rattle.yw_tree.proofs.Forest.add_item.Goals as goal

pub add_item-requires-clause-boxed : goal.add_item-requires-clause-boxed
add_item-requires-clause-boxed c =
    let f = c.args.self.now in
    let id = c.args.id.now in
    let s = c.in-Some.net.now in
    let e : net_at f id ≡ Some s = sym (rw c.in-Some.is at c.net_mut.ensures.value) in
    (c.net_mut.ensures.placed c.requires.boxed s e).boxed

pub add_item-requires-clause-task_in : goal.add_item-requires-clause-task_in
add_item-requires-clause-task_in c =
    let f = c.args.self.now in
    let id = c.args.id.now in
    let s = c.in-Some.net.now in
    let e : net_at f id ≡ Some s = sym (rw c.in-Some.is at c.net_mut.ensures.value) in
    subst (λ o. IsSomeAnd o (HasTask (out-Node c.args.node).task)) e c.requires.comes.task_in

pub add_item-requires-clause-last : goal.add_item-requires-clause-last
add_item-requires-clause-last c =
    let f = c.args.self.now in
    let id = c.args.id.now in
    let s = c.in-Some.net.now in
    let n = c.args.node in
    let i = c.net_mut.ensures.identity in
    let e : net_at f id ≡ Some s = sym (rw c.in-Some.is at c.net_mut.ensures.value) in
    let h = c.net_mut.ensures.placed c.requires.boxed s e in
    comes_last f c.requires.boxed id (identity_long id i) (identity_short id i) s (placed_net f id) h (out-Node n).id c.requires.comes.child c.requires.comes.after n refl

pub returns-clause-sites : goal.returns-clause-sites
returns-clause-sites c =
    let f = c.args.self.now in
    let id = c.args.id.now in
    let s = c.in-Some.net.now in
    let n = c.args.node in
    let i = c.net_mut.ensures.identity in
    let e : net_at f id ≡ Some s = sym (rw c.in-Some.is at c.net_mut.ensures.value) in
    let h = c.net_mut.ensures.placed c.requires.boxed s e in
    on_ok c.add_item.result _ _ c.add_item.ensures (λ adds names.
    (item_comes f c.requires.boxed id (identity_long id i) (identity_short id i) s (placed_net f id) h (out-Node n).id c.requires.comes.child c.requires.comes.after n refl c.add_item.new.net adds names).0)

pub returns-clause-kept : goal.returns-clause-kept
returns-clause-kept c =
    let f = c.args.self.now in
    let id = c.args.id.now in
    let s = c.in-Some.net.now in
    let n = c.args.node in
    let i = c.net_mut.ensures.identity in
    let e : net_at f id ≡ Some s = sym (rw c.in-Some.is at c.net_mut.ensures.value) in
    let h = c.net_mut.ensures.placed c.requires.boxed s e in
    on_ok c.add_item.result _ _ c.add_item.ensures (λ adds.
    (item_comes f c.requires.boxed id (identity_long id i) (identity_short id i) s (placed_net f id) h (out-Node n).id c.requires.comes.child c.requires.comes.after n refl c.add_item.new.net adds (λ k. [])).1)
