use Rattle.std.proofs.Common.{◌≡◌, [], Some, sym}
use Rattle.yw_tree.specs.Places.{run_of}
use Rattle.yw_tree.proofs.Bared.{run_bared}
use Rattle.yw_base.proofs.Parents.{identity_long}
use Rattle.yw_tree.proofs.Forest.bare_run.Goals as goal

pub returns-in-Some-clause-sites : goal.returns-in-Some-clause-sites
returns-in-Some-clause-sites c =
    let f = c.args.self.now in
    let id = c.args.id.now in
    let r = c.in-Some.target.now in
    let e : run_of f id ≡ Some r = sym (rw c.in-Some.is at c.run_mut.ensures.value) in
    λ names. (run_bared f c.requires.boxed id (identity_long id c.run_mut.ensures.identity) r c.end_run_net.new.run e c.end_run_net.ensures names).0

pub returns-in-Some-clause-kept : goal.returns-in-Some-clause-kept
returns-in-Some-clause-kept c =
    let f = c.args.self.now in
    let id = c.args.id.now in
    let r = c.in-Some.target.now in
    let e : run_of f id ≡ Some r = sym (rw c.in-Some.is at c.run_mut.ensures.value) in
    (run_bared f c.requires.boxed id (identity_long id c.run_mut.ensures.identity) r c.end_run_net.new.run e c.end_run_net.ensures (λ k. [])).1
