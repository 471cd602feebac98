use Rattle.std.proofs.Common.{◌≡◌, ℕ, List, [], Some, map, ap, subst, sym, ◌∙◌}
use Rattle.yw_state.specs.After.{with_sites}
use Rattle.yw_state.specs.State.{State, drop_all, items_of, opening}
use Rattle.yw_tree.specs.Forest.{sites_of}
use Rattle.yw_tree.specs.Places.{net_at, placed_net}
use Rattle.yw_tree.specs.Shows.{ShowsNet}
use Rattle.yw_tree.proofs.NetHere.{cut_here, net_at_here}
use Rattle.yw_tree.proofs.TaskCut.{items_children}
use Rattle.yw_tree.proofs.Forest.cut_task.Goals as goal

pub clear_task-requires-clause-boxed : goal.clear_task-requires-clause-boxed
clear_task-requires-clause-boxed c =
    let f = c.args.self.now in
    let id = c.args.id.now in
    let s = c.in-Some.net.now in
    let e : net_at f id ≡ Some s = sym (rw c.in-Some.is at c.net_mut.ensures.value) in
    (c.net_mut.ensures.placed c.requires.boxed s e).boxed

pub returns-in-Some-clause-sites : goal.returns-in-Some-clause-sites
returns-in-Some-clause-sites c =
    let f = c.args.self.now in
    let id = c.args.id.now in
    let s = c.in-Some.net.now in
    let w = c.clear_task.new.net in
    let e : net_at f id ≡ Some s = sym (rw c.in-Some.is at c.net_mut.ensures.value) in
    let h = c.net_mut.ensures.placed c.requires.boxed s e in
    let net_at = net_at_here f id s (placed_net f id) h w c.clear_task.ensures.boxed c.clear_task.ensures.children in
    λ names state is.
    let js = map (λ e. e.0) (items_of state id c.args.t) in
    let r = cut_here f id s (placed_net f id) h w c.clear_task.ensures.boxed c.clear_task.ensures.children names js (items_children state id c.args.t)
    (λ beside stands shows. subst (λ m. ShowsNet names (drop_all m js) id beside w) is (c.clear_task.ensures.shows names state id beside net_at stands (subst (λ m. ShowsNet names m id beside s) (sym is) shows))) in
    ap (with_sites state) (r.0 ∙ ap (λ m. drop_all m js) (sym is))

pub returns-in-Some-clause-kept : goal.returns-in-Some-clause-kept
returns-in-Some-clause-kept c =
    let f = c.args.self.now in
    let id = c.args.id.now in
    let s = c.in-Some.net.now in
    let w = c.clear_task.new.net in
    let e : net_at f id ≡ Some s = sym (rw c.in-Some.is at c.net_mut.ensures.value) in
    let h = c.net_mut.ensures.placed c.requires.boxed s e in
    let net_at = net_at_here f id s (placed_net f id) h w c.clear_task.ensures.boxed c.clear_task.ensures.children in
    let names : ℕ → List ℕ = λ k. [] in
    let state : State = record opening { sites = sites_of names f } in
    let js = map (λ e. e.0) (items_of state id c.args.t) in
    (cut_here f id s (placed_net f id) h w c.clear_task.ensures.boxed c.clear_task.ensures.children names js (items_children state id c.args.t) (λ beside stands shows. c.clear_task.ensures.shows names state id beside net_at stands shows)).1
