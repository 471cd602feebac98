use Rattle.std.proofs.Common.{◌∙◌, ap}
use Rattle.serde_json.specs.View.{view}
use Rattle.yw_proof.specs.Weights.{unknown_key, weights_in}
use Rattle.yw_proof.proofs.NetFound.{net_found}
use Rattle.yw_proof.proofs.finding.judge_net.Goals as goal

pub returns : goal.returns
returns c =
    let weights = view c.args.weights.now in
    net_found c.args.spec c.args.number c.net_at-net.result.now c.net_at-net.ensures weights c.in_ok-names.names c.in_ok-names.ensures
    c.in_ok-given.given (c.in_ok-given.ensures ∙ ap (weights_in weights) c.as_slice.ensures)
    c.in_ok-unknown.unknown (c.in_ok-unknown.ensures ∙ ap (λ ns. unknown_key ns weights) c.as_slice-2.ensures)
    c.in_ok-name.name c.in_ok-name.ensures c.prove.result c.finding_by.result c.prove.ensures.ok c.prove.ensures.fault c.finding_by.ensures
