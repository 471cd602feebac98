use Rattle.std.proofs.Common.{false, sym, true, ◌∙◌}
use Rattle.yw_cases.proofs.Launching.{no_spec, tells_launch}
use Rattle.yw_cases.proofs.whole.may_launch.Goals as goal

pub returns-in_default : goal.returns-in_default
returns-in_default c = no_spec c.args.standing.now c.requires c.args.n c.args.name.now c.args.values.now c.in_default.ensures

pub returns-then-not-may_begin : goal.returns-then-not-may_begin
returns-then-not-may_begin c =
    tells_launch c.args.standing.now c.requires c.args.n c.args.name.now c.args.values.now c.in-Some.spec.now c.in-Some.number c.in-Some.ensures
    false (sym c.may_begin.ensures ∙ c.if-not-may_begin.true)

pub returns : goal.returns
returns c = record {
  leads = tells_launch c.args.standing.now c.requires c.args.n c.args.name.now c.args.values.now c.in-Some.spec.now c.in-Some.number c.in-Some.ensures
      true (sym c.may_begin.ensures ∙ c.if-not-may_begin.false);
  numbered = record { spec = c.in-Some.spec.now; kept = c.in-Some.ensures };
}
