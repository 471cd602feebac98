use Rattle.std.proofs.Common.{◌∙◌, ◌++◌, ap, append_assoc, sym}
use Rattle.std.proofs.lemmas.Map.Iter.{rest_all, rest_more}
use Rattle.yw_sites.proofs.Each.{nil_right}
use Rattle.yw_shown.proofs.NetTokens.{tokens_are}
use Rattle.yw_shown.proofs.tokens.push_tokens.Goals as goal
use Rattle.yw_shown.specs.Tokens.{rows_of}

pub loop-row-preserved : goal.loop-row-preserved
loop-row-preserved c =
    let turn = rest_more (λ e. e) c.loop-row.row-iterator c.next.new.self c.next.result _ c.in-Some.is c.next.ensures.steps in
    ap (λ z. z ++ rows_of c.next.new.self) c.in_ok-push.ensures.ok
    ∙ append_assoc c.loop-row.rows _ (rows_of c.next.new.self) ∙ ap (λ z. c.loop-row.rows ++ rows_of z) (sym turn) ∙ c.loop-row.invariant

pub returns : goal.returns
returns c = λ s n is.
    let none = rest_all (λ e. e) c.loop-row.row-iterator c.next.new.self c.next.result c.in-None.is c.next.ensures.steps in
    let gives = c.into_iter-row-iterator.ensures.into_iter_gives in
    record {
      more = rows_of c.in_ok-items.items.entries;
      behind = sym (nil_right c.loop-row.rows) ∙ ap (λ z. c.loop-row.rows ++ rows_of z) (sym none) ∙ c.loop-row.invariant
          ∙ ap (λ z. c.args.rows.now ++ rows_of z) gives.0;
      are = tokens_are s c.args.at.now c.args.net.now c.args.marks.now n is c.in_ok-items.items.entries c.in_ok-items.ensures gives.5;
    }
