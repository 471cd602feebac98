use Rattle.std.proofs.Common.{◌∙◌, ◌++◌, ◌∷◌, [], ap, map}
use Rattle.std.proofs.lemmas.Result.{on_ok_weaker}
use Rattle.yw_library.specs.Names.{names_of}
use Rattle.yw_restore.proofs.gather.gather_at.Goals as goal
use Rattle.yw_restore.specs.Gathers.{item_rows_in, net_rows_in, token_rows_in}
use Rattle.yw_restore.specs.Lines.{ident_of_mark, row_of_due, row_of_item, row_of_net, row_of_run, row_of_token}
use Rattle.yw_sites.specs.Entries.{Entry}

pub returns : goal.returns
returns c =
    on_ok_weaker c.gather_net.result
    (λ net s x held at.
    let marks = c.in_ok-gather_marks.ensures (names_of c.args.known.now) s x held.boxed held.sites at in
    let item = c.in_ok-gather_item.ensures s x held at in
    let last = net s x held at in
    let e : Entry = (c.args.at.now, x) in
    record {
      nets = last.nets ∙ ap (λ z. map row_of_net z ++ net_rows_in s (e ∷ [])) marks.nets;
      tokens = last.tokens ∙ ap (λ z. map row_of_token z ++ token_rows_in s (e ∷ [])) marks.tokens;
      items = ap (map row_of_item) last.items ∙ item ∙ ap (λ z. map row_of_item z ++ item_rows_in s (e ∷ [])) marks.items;
      runs = ap (map row_of_run) last.runs ∙ marks.runs;
      suspended = ap (map ident_of_mark) last.suspended ∙ marks.suspended;
      due = ap (map row_of_due) last.due ∙ marks.due;
    }) c.gather_net.ensures
