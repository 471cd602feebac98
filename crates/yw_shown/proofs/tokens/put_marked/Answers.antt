use Rattle.std.proofs.Common.{◌≡◌, ◌∙◌, ap, arith, min, refl}
use Rattle.std.specs.BTreeMap.{insert_entry}
use Rattle.yw_shown.proofs.tokens.put_marked.Goals as goal
use Rattle.yw_shown.specs.Tokens.{row_of, text_cmp}
use Rattle.yw_state.specs.Allowed.{most_tokens}
use Rattle.yw_state.specs.declared.answer.TokenRow.{TokenRow}

pub returns-then-count-eq0 : goal.returns-then-count-eq0
returns-then-count-eq0 c = record { none = λ zero. refl; some = λ one. absurd (omega arith) }

pub returns : goal.returns
returns c =
    let net : c.in_ok-copy.field-0 ≡ c.args.at.now = c.in_ok-copy.ensures in
    let place : c.in_ok-copy_of_place.field-0 ≡ c.args.place.now = c.in_ok-copy_of_place.ensures in
    let count : c.min.result ≡ min c.args.count most_tokens = c.min.ensures in
    let made : TokenRow = record { net = c.in_ok-copy.field-0; place = c.in_ok-copy_of_place.field-0; count = c.min.result } in
    let same : made ≡ row_of c.args.at.now (c.args.place.now, c.args.count) = (λ z. record { net = net z; place = place z; count = count z }) in
    record {
      none = λ zero. absurd (omega arith);
      some = λ one. (
        c.in_ok-text.field-0,
        c.in_ok-text.ensures,
        c.in_ok-insert.ensures.entries ∙ ap (λ (r : TokenRow). insert_entry text_cmp c.args.rows.now.entries c.in_ok-text.field-0 r) same,
      );
    }
