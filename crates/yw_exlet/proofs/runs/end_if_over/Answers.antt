-- The run has no net, so what goes with it is the run alone.
use Rattle.std.proofs.Common.{◌∙◌, ap, sym, subst, IfSome, if◌then◌else◌}
use Rattle.yw_exlet.proofs.OwnSite.{dropped}
use Rattle.yw_state.proofs.Tests.{there}
use Rattle.yw_state.specs.After.{with_sites}
use Rattle.yw_state.specs.Map.{remove}
use Rattle.yw_base.proofs.Parents.{identity_long}
use Rattle.yw_tree.specs.Coming.{HasNoNet}
use Rattle.yw_tree.specs.Places.{run_of}
use Rattle.yw_exlet.proofs.runs.end_if_over.Goals as goal

pub returns-then-is_over-clause-ends : goal.returns-then-is_over-clause-ends
returns-then-is_over-clause-ends c = λ names s here.
    let f = c.args.forest.now in
    let (target, e) = there (run_of f c.args.r.now) (c.is_over.ensures.there c.if-is_over.true) in
    let alone = subst (λ o. IfSome o HasNoNet) e c.requires.alone in
    ap (λ b. if b then with_sites s (remove s.sites c.args.r.now) else s) (sym (c.is_over.ensures.over names s here) ∙ c.if-is_over.true)
    ∙ ap (λ m. with_sites s (remove m c.args.r.now)) here
    ∙ ap (with_sites s) (sym (c.cut-there.ensures.sites names ∙ dropped names f c.requires.boxed c.args.r.now (identity_long c.args.r.now c.is_over.ensures.identity) target e alone))
