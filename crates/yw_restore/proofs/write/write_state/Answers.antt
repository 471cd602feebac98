use Rattle.std.proofs.Common.{◌≡◌, ◌∙◌, [], Result, Ok, Err, OnOk, true, ap, arith, length, inl, inr, refl, subst, sym}
use Rattle.std.proofs.lemmas.List.{length-append}
use Rattle.std.proofs.lemmas.Result.{on_ok_weaker}
use Rattle.yw_restore.proofs.Opening.{nothing_at_opening, opening_is}
use Rattle.yw_restore.proofs.StateBytes.{bytes_are, in_range}
use Rattle.yw_restore.proofs.write.write_state.Goals as goal
use Rattle.yw_restore.specs.Written.{lines_bytes}
use Rattle.yw_sites.proofs.Each.{nil_right}
use Rattle.yw_state.proofs.Tests.{never}
use Rattle.yw_states.proofs.Rising.{keys_ascend}
use Rattle.yw_states.specs.Rising.{KeysAscend}
use Rattle.yw_states.specs.Rows.{is_rows, rows_bytes}
use Rattle.yw_texts.specs.Texts.{reader}

both_ok : {T E : Type 0} (r : Result T E) (P Q : Type 0) → OnOk r P → OnOk r Q → OnOk r (P × Q)
both_ok (Ok v) P Q p q = (p, q)
both_ok (Err e) P Q p q = tt

pub returns-then-has_nothing-clause-state : goal.returns-then-has_nothing-clause-state
returns-then-has_nothing-clause-state c = λ s is. (
  [],
  sym (nil_right c.args.out.now.items),
  record { well = is.held.well; here = inl (opening_is c.args.kept.now s is (c.if-has_nothing.ensures.0 refl), refl) },
)

pub returns-clause-state : goal.returns-clause-state
returns-clause-state c =
    on_ok_weaker c.write_all.result (λ last s is.
    let kept = c.args.kept.now in
    let lines = c.in_ok-lines.lines in
    let rows = c.in_ok-lines.ensures s is in
    let keys = subst KeysAscend (sym rows) (keys_ascend reader s is.held.well) in (
      lines_bytes lines,
      last.0,
      record {
        well = is.held.well;
        here = inr (
          (λ e. never (c.if-has_nothing.ensures.1 (nothing_at_opening kept s is e))),
          record {
            in_range = subst (λ r. is_rows r ≡ true) rows (in_range lines last.1 keys);
            same = bytes_are lines ∙ ap rows_bytes rows;
          },
        );
      },
    )) (both_ok c.write_all.result _ _ c.write_all.ensures.bytes c.write_all.ensures.range)

pub returns-clause-longer : goal.returns-clause-longer
returns-clause-longer c =
    on_ok_weaker c.write_all.result
    (λ written. omega (arith, ap length written, length-append c.args.out.now.items (lines_bytes c.in_ok-lines.lines))) c.write_all.ensures.bytes
