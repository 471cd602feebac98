use Rattle.yw_proper.proofs.Accepted.{proved_is_bounded}
use Rattle.yw_proper.proofs.certificate.prove.Goals as goal

pub returns-clause-bounded : goal.returns-clause-bounded
returns-clause-bounded c = λ net at is text accepted.
    proved_is_bounded c.args.spec.now c.args.net c.net_at.result.now net c.as_slice.result.now c.args.weights.now c.prove_net.result c.net_at.ensures c.as_slice.ensures c.prove_net.ensures.ok at is text accepted
