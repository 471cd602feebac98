use Rattle.std.proofs.Common.{◌∙◌, ◌++◌, ◌∷◌, [], ap, refl, sym}
use Rattle.std.proofs.lemmas.Result.{on_ok_weaker}
use Rattle.yw_known.specs.Here.{as_net_at}
use Rattle.yw_shown.specs.Rows.{row_of_net}
use Rattle.yw_sites.proofs.Each.{nil_right}
use Rattle.yw_worklist.proofs.Here.{counted, net_shown, no_net_shown, no_tokens, spec_name_is}
use Rattle.yw_worklist.proofs.shown.push_net.Goals as goal

pub returns : goal.returns
returns c =
    on_ok_weaker c.push_tokens.result (λ tokens s x held.
    let h = c.in-Some.here in
    let known = c.args.known.now in
    let is = c.in-Some.ensures s held in
    let old = c.args.shown.now in
    let name = spec_name_is known c.args.forest.now s c.args.at.now h held is in
    record {
      nets = c.in_ok-push.ensures.ok ∙ ap (λ r. old.nets ++ (r ∷ [])) (c.in_ok-row.ensures ∙ ap (λ n. row_of_net c.args.at.now n h.net.now h.state.now) name)
          ∙ ap (λ z. old.nets ++ z) (sym (net_shown s c.args.at.now x (as_net_at known h) is.at));
      tokens = tokens s (as_net_at known h) (counted known c.args.forest.now s c.args.at.now h held is);
      due = refl;
      runs = refl;
      suspended = refl;
      items = refl;
    }) c.push_tokens.ensures

pub returns-in_default : goal.returns-in_default
returns-in_default c = λ s x held.
    let none = c.in_default.ensures s held in
    let old = c.args.shown.now in
    record {
      nets = sym (ap (λ z. old.nets ++ z) (no_net_shown s c.args.at.now x none) ∙ nil_right old.nets);
      tokens = record { more = []; behind = sym (nil_right old.tokens); are = no_tokens s c.args.at.now x none };
      due = refl;
      runs = refl;
      suspended = refl;
      items = refl;
    }
