use Rattle.std.proofs.Common.{◌≡◌, ◌∙◌, Option, Some, true, false, ap, refl, subst, sym}
use Rattle.yw_base.specs.Identity.{is_identity, parent}
use Rattle.yw_revive.proofs.ComesLast.{no_names, no_parent}
use Rattle.yw_revive.proofs.Hanging.{below_another, came, grown_with, run_bare, run_may_come, run_stands}
use Rattle.yw_revive.proofs.grow.grow_run.Goals as goal
use Rattle.yw_revive.specs.Grown.{AttachesNet, is_free}
use Rattle.yw_state.specs.Identity.{Ident, is_case_ident}
use Rattle.yw_state.specs.Map.{get}
use Rattle.yw_tree.specs.Becomes.{Gets}
use Rattle.yw_tree.specs.Coming.{RunMayCome}
use Rattle.yw_tree.specs.Entries.{net_part_of, run_site}
use Rattle.yw_tree.specs.Forest.{sites_of}
use Rattle.yw_tree.specs.declared.Run.{Run, out-Run}

pub add_run-requires-clause-comes : goal.add_run-requires-clause-comes
add_run-requires-clause-comes c =
    let run = c.args.run in
    subst (λ (r : Run). RunMayCome c.args.forest.now c.in-Some.above r) (sym c.in_ok-run.ensures.ok)
    (run_may_come c.args.forest.now c.in-Some.above run c.in_ok-above.field-0 c.requires.boxed c.requires.last c.requires.without_net
    (subst (λ (i : Ident). is_identity i ≡ true) c.in_ok-id.ensures c.numbers.ensures.identity) c.in_ok-above.ensures c.in-Some.is
    (sym (c.if-not-is_free.ensures ∙ ap is_free c.find.ensures.found)))

pub attach_to_run-requires-clause-stands : goal.attach_to_run-requires-clause-stands
attach_to_run-requires-clause-stands c =
    let old = c.args.forest.now in
    let mid = c.add_run.new.self in
    let run = c.args.run in
    run_stands mid c.add_run.ensures.kept c.in_ok-id.id c.numbers.ensures.identity no_names (run_site no_names run)
    (ap (get (sites_of no_names mid)) c.in_ok-id.ensures
    ∙ came old mid (out-Run run).id (λ names. run_site names run)
    (subst (λ (r : Run). Gets old mid (out-Run r).id (λ names. run_site names r)) c.in_ok-run.ensures.ok c.add_run.ensures.sites))
    (subst (λ (i : Ident). is_case_ident i ≡ false) (sym c.in_ok-id.ensures)
    (below_another (out-Run run).id c.in-Some.above c.in_ok-above.field-0 c.in_ok-above.ensures c.in-Some.is)) refl

pub attach_to_run-requires-clause-vacant : goal.attach_to_run-requires-clause-vacant
attach_to_run-requires-clause-vacant c =
    let old = c.args.forest.now in
    let mid = c.add_run.new.self in
    let run = c.args.run in
    run_bare mid c.add_run.ensures.kept c.in_ok-id.id c.numbers.ensures.identity no_names (run_site no_names run)
    (ap (get (sites_of no_names mid)) c.in_ok-id.ensures
    ∙ came old mid (out-Run run).id (λ names. run_site names run)
    (subst (λ (r : Run). Gets old mid (out-Run r).id (λ names. run_site names r)) c.in_ok-run.ensures.ok c.add_run.ensures.sites))
    (ap (net_part_of no_names) c.requires.without_net)

pub returns-clause-ok : goal.returns-clause-ok
returns-clause-ok c =
    let run = c.args.run in
    grown_with c.args.forest.now c.add_run.new.self c.attach_to_run.new.forest (out-Run run).id (λ names. run_site names run) c.args.net
    c.requires.last
    (subst (λ (r : Run). Gets c.args.forest.now c.add_run.new.self (out-Run r).id (λ names. run_site names r)) c.in_ok-run.ensures.ok c.add_run.ensures.sites)
    (subst (λ (i : Ident). AttachesNet c.add_run.new.self i c.args.net c.attach_to_run.new.forest) c.in_ok-id.ensures c.attach_to_run.ensures.sites)
    c.attach_to_run.ensures.kept
