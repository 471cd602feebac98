use Rattle.std.proofs.Common.{refl, sym, ◌∙◌}
use Rattle.yw_tree.proofs.RunBack.{has_some, run_seen}
use Rattle.yw_tree.proofs.parts.run_of_case.Goals as goal

pub case_run_mut-requires : goal.case_run_mut-requires
case_run_mut-requires c = has_some c.args.id.now c.args.case.now.run (sym c.has_run.ensures ∙ c.if-not-has_run.false)

pub returns : goal.returns
returns c = (refl, record { writes_back = tt; value = run_seen c.args.id.now c.args.case.now.run c.case_run_mut.result.now (sym c.has_run.ensures ∙ c.if-not-has_run.false) c.case_run_mut.ensures.value })
