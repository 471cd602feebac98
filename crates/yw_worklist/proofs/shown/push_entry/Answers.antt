use Rattle.std.proofs.Common.{◌∙◌, ◌++◌, ◌∷◌, [], ap, subst}
use Rattle.std.proofs.lemmas.Result.{on_ok_weaker}
use Rattle.std.specs.List.{filter_map}
use Rattle.yw_library.specs.Names.{names_of}
use Rattle.yw_shown.specs.Shows.{AddsTokens, Entry}
use Rattle.yw_state.specs.Answers.{item_row, net_row}
use Rattle.yw_worklist.proofs.shown.push_entry.Goals as goal

pub returns : goal.returns
returns c =
    on_ok_weaker c.push_net.result
    (λ net s x held at.
    let marks = c.in_ok-push_marks.ensures (names_of c.args.known.now) s x held.boxed held.sites at in
    let item = c.in_ok-push_item.ensures s x held in
    let rest = net s x held in
    let e : Entry = (c.args.at.now, x) in
    record {
      due = rest.due ∙ marks.due;
      items = rest.items ∙ item ∙ ap (λ z. z ++ filter_map (item_row s) (e ∷ [])) marks.items;
      nets = rest.nets ∙ ap (λ z. z ++ filter_map (net_row s) (e ∷ [])) marks.nets;
      runs = rest.runs ∙ marks.runs;
      suspended = rest.suspended ∙ marks.suspended;
      tokens = subst (λ z. AddsTokens s c.args.at.now z c.push_net.new.shown.tokens) marks.tokens rest.tokens;
    }) c.push_net.ensures
