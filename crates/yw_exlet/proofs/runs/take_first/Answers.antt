use Rattle.std.proofs.Common.{Some, sym, ◌≡◌}
use Rattle.yw_exlet.proofs.OwnSite.{run_changed}
use Rattle.yw_state.specs.Exlets.{taken_first}
use Rattle.yw_base.proofs.Parents.{identity_long}
use Rattle.yw_tree.specs.Places.{run_of}
use Rattle.yw_exlet.proofs.runs.take_first.Goals as goal

pub returns-in-Some-clause-sites : goal.returns-in-Some-clause-sites
returns-in-Some-clause-sites c =
    let f = c.args.forest.now in
    let r = c.args.r.now in
    let old = c.in-Some.target.now in
    let e : run_of f r ≡ Some old = sym (rw c.in-Some.is at c.run_mut.ensures.value) in
    (run_changed f c.requires.boxed r (identity_long r c.run_mut.ensures.identity) old c.step.new.target e taken_first c.step.ensures).0

pub returns-in-Some-clause-boxed : goal.returns-in-Some-clause-boxed
returns-in-Some-clause-boxed c =
    let f = c.args.forest.now in
    let r = c.args.r.now in
    let old = c.in-Some.target.now in
    let e : run_of f r ≡ Some old = sym (rw c.in-Some.is at c.run_mut.ensures.value) in
    (run_changed f c.requires.boxed r (identity_long r c.run_mut.ensures.identity) old c.step.new.target e taken_first c.step.ensures).1
