use Rattle.std.proofs.Common.{ap, subst, sym, ◌∙◌, ◌≡◌}
use Rattle.yw_tree.specs.Coming.{RunMayCome}
use Rattle.yw_tree.specs.Places.{hung_at}
use Rattle.yw_tree.specs.Spots.{part_at}
use Rattle.yw_tree.specs.declared.Run.{Run, out-Run}
use Rattle.yw_tree_tests.proofs.Growing.{grows, nothing_there, run_may_come}
use Rattle.yw_tree_tests.proofs.grown.put_run.Goals as goal

pub add_run-requires-clause-comes : goal.add_run-requires-clause-comes
add_run-requires-clause-comes c =
    let f = c.args.forest.now in
    let i = c.args.at.now in
    subst (RunMayCome f i) (sym c.in-Ok.ensures.ok)
    (run_may_come f c.args.n c.requires.grown i c.args.id c.requires.is_below c.new.result c.begin-run.result c.requires.target (nothing_there (hung_at f i) c.requires.idle)
    (nothing_there (part_at f c.args.id) (sym c.is_there.ensures ∙ c.if-is_there.false)) c.begin-run.ensures)

pub returns-in-Ok : goal.returns-in-Ok
returns-in-Ok c =
    λ yes.
    let id_is : (out-Run c.in-Ok.run'.value).id ≡ c.args.id = ap (λ (r : Run). (out-Run r).id) c.in-Ok.ensures.ok ∙ c.begin-run.ensures.id in
    grows c.args.forest.now c.args.n c.requires.grown c.args.at.now c.args.id c.requires.is_below c.add_run.new.self (out-Run c.in-Ok.run'.value).id _ c.requires.there id_is c.add_run.ensures.sites
    c.add_run.ensures.kept
