use Rattle.std.proofs.Common.{ap, subst, sym, ◌∙◌}
use Rattle.yw_base.specs.Identity.{case_number}
use Rattle.yw_enabled.specs.Items.{event_of}
use Rattle.yw_walk.proofs.Stepping.{goes, nothing_computed, stays, stays_without}
use Rattle.yw_walk.proofs.items.step_of.Goals as goal
use Rattle.yw_walk.specs.Computed.{plainly}
use Rattle.yw_walk.specs.Finds.{IsFound, IsItemAt}

pub returns-in_default : goal.returns-in_default
returns-in_default c = λ known f is s held free out.
    stays_without s c.args.id.now (subst (IsItemAt known f c.args.id.now) c.in_default.is is s held)

pub returns-in_default-item_step : goal.returns-in_default-item_step
returns-in_default-item_step c = λ known f is s held free out.
    stays known f s held c.args.id.now free c.in-Some.here (subst (IsItemAt known f c.args.id.now) c.in-Some.is is s held) c.args.ends out
    c.in_default-item_step.ensures.goes

pub returns : goal.returns
returns c = λ known f is s held free out.
    let j = c.args.id.now in
    let step = c.in-Some-item_step.step in
    subst (IsFound s (case_number j)) (sym (c.plainly.ensures ∙ ap plainly (c.event_of.ensures ∙ ap (event_of step) c.in_ok-copy.ensures)))
    (record {
      comes = goes known f s held j free c.in-Some.here (subst (IsItemAt known f j) c.in-Some.is is s held) c.args.ends out step c.in-Some-item_step.ensures.goes;
      computed = nothing_computed s step j;
    })
