use Rattle.std.proofs.Common.{◌≡◌, None, Some, sym, ap, ◌∙◌}
use Rattle.yw_tree.specs.Places.{net_of_run, run_of}
use Rattle.yw_tree.specs.Ways.{net_in}
use Rattle.yw_tree.specs.declared.Run.{out-Run}
use Rattle.yw_tree.proofs.Attached.{no_net, run_attached}
use Rattle.yw_tree.proofs.Forest.attach_run_net.Goals as goal

pub returns-in-Some-clause-sites : goal.returns-in-Some-clause-sites
returns-in-Some-clause-sites c =
    let f = c.args.self.now in
    let id = c.args.id.now in
    let r = c.in-Some.target.now in
    let e : run_of f id ≡ Some r = sym (rw c.in-Some.is at c.run_mut.ensures.value) in
    let none : net_in (out-Run r).net ≡ None = ap net_of_run (sym e) ∙ c.requires.vacant in
    (run_attached f id c.args.net c.requires.well c.requires.empty r c.set_run_net.new.run (c.run_mut.ensures.placed c.requires.boxed r e) (no_net (out-Run r).net none) c.set_run_net.ensures).0

pub returns-in-Some-clause-kept : goal.returns-in-Some-clause-kept
returns-in-Some-clause-kept c =
    let f = c.args.self.now in
    let id = c.args.id.now in
    let r = c.in-Some.target.now in
    let e : run_of f id ≡ Some r = sym (rw c.in-Some.is at c.run_mut.ensures.value) in
    let none : net_in (out-Run r).net ≡ None = ap net_of_run (sym e) ∙ c.requires.vacant in
    (run_attached f id c.args.net c.requires.well c.requires.empty r c.set_run_net.new.run (c.run_mut.ensures.placed c.requires.boxed r e) (no_net (out-Run r).net none) c.set_run_net.ensures).1
