use Rattle.std.proofs.Common.{◌∙◌, ◌++◌, ◌∷◌, [], ap, map, refl, sym}
use Rattle.std.proofs.lemmas.Result.{on_ok_weaker}
use Rattle.yw_known.specs.Here.{as_net_at}
use Rattle.yw_restore.proofs.Growing.{none_more, one_more}
use Rattle.yw_restore.proofs.Here.{net_listed, net_row_named, no_net_listed, no_tokens_listed, spec_name_is, tokens_listed}
use Rattle.yw_restore.proofs.gather.gather_net.Goals as goal
use Rattle.yw_restore.specs.Lines.{row_of_net, row_of_token}

pub returns : goal.returns
returns c =
    on_ok_weaker c.push_tokens.result (λ tokens s x held at.
    let h = c.in-Some.here in
    let known = c.args.known.now in
    let j = c.args.at.now in
    let is = c.in-Some.ensures s held in
    let n = as_net_at known h in
    let old = c.args.lines.now in
    let name = spec_name_is s j x at known c.args.forest.now h held is in
    record {
      nets = one_more row_of_net old.nets c.push.new.self _ _ c.in_ok-push.ensures.ok
          (ap (λ z. net_row_named j n z ∷ []) name ∙ sym (net_listed s j x at n is.at));
      tokens = tokens ∙ ap (λ z. map row_of_token old.tokens ++ z) (sym (tokens_listed s j x at n is.at));
      items = refl;
      runs = refl;
      suspended = refl;
      due = refl;
    }) c.push_tokens.ensures

pub returns-in_default : goal.returns-in_default
returns-in_default c = λ s x held at.
    let none = c.in_default.ensures s held in
    let j = c.args.at.now in
    let old = c.args.lines.now in
    record {
      nets = none_more row_of_net old.nets _ (no_net_listed s j x at none);
      tokens = none_more row_of_token old.tokens _ (no_tokens_listed s j x at none);
      items = refl;
      runs = refl;
      suspended = refl;
      due = refl;
    }
