use Rattle.std.proofs.Common.{refl}
use Rattle.yw_accept.specs.Built.{IsParam}
use Rattle.yw_build.proofs.ZipLemmas.{zip_next}
use Rattle.yw_build.proofs.parameters.ins_of.Goals as goal

pub loop-parameter-preserved : goal.loop-parameter-preserved
loop-parameter-preserved c =
    zip_next (IsParam c.args.numbers.now.said.now) c.args.said.now c.args.said.now c.loop-parameter.parameter-index c.parameter-item.result c.loop-parameter.ins c.push.new.self c.in_ok-in_of.field-0 refl c.loop-parameter-test.true c.parameter-item.is
    c.loop-parameter.invariant c.in_ok-push.ensures.ok c.in_ok-in_of.ensures
