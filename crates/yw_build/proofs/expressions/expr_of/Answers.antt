use Rattle.yw_build.proofs.ExpressionLemmas.{memory_alone}
use Rattle.yw_build.proofs.expressions.expr_of.Goals as goal

pub out_of_memory-requires : goal.out_of_memory-requires
out_of_memory-requires c = memory_alone c.args.scope.now c.as_str.result.now c.args.text.now c.in-Err.fault c.as_str.ensures c.requires c.in-Err.ensures.only
