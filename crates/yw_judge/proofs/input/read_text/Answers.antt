use Rattle.std.proofs.Common.{◌≡◌, ◌∙◌, List, ℕ, length, take, sym, subst, arith, length-take}
use Rattle.yw_outside.proofs.Reading.{consumes_none}
use Rattle.yw_judge.specs.Taken.{HasTaken}
use Rattle.yw_judge.proofs.ReadLemmas.{taken_still, taken_more, taken_whole, kept_piece, took_whole, took_past, took_some, took_more}
use Rattle.yw_judge.proofs.input.read_text.Goals as goal

pub returns-in_err-count-clause-some : goal.returns-in_err-count-clause-some
returns-in_err-count-clause-some g c = λ bytes e.
    let text = c.loop-source.text in
    took_some c.args.limit bytes text.items _ (taken_still bytes text.items _ _ (c.loop-source.invariant.taken bytes e) c.in_err-count.ensures.bytes) (omega (arith, text.ok.0, c.loop-source.invariant.small))

pub returns-then-count-eq0-clause-some : goal.returns-then-count-eq0-clause-some
returns-then-count-eq0-clause-some g c = λ bytes e.
    let text = c.loop-source.text in
    took_more c.args.limit bytes text.items c.read_piece.new.piece c.in_ok-count.count _ _ (c.loop-source.invariant.taken bytes e) c.in_ok-count.ensures.bytes.0 (omega (arith, text.ok.0, c.in_ok-count.ensures.count.0, c.len-in-loop-source.ensures))

pub returns-then-count-eq0-clause-ok : goal.returns-then-count-eq0-clause-ok
returns-then-count-eq0-clause-ok g c = λ bytes e.
    let text = c.loop-source.text in
    let zero = c.if-count-eq0.true in
    let read = c.in_ok-count.ensures.bytes in
    took_whole c.args.limit bytes text.items _ (omega (arith, text.ok.0, c.len.ensures, c.loop-source-test.true))
    (taken_whole bytes text.items _ _ (c.loop-source.invariant.taken bytes e) (consumes_none _ _ c.read_piece.new.piece c.in_ok-count.count zero read.0) (read.1 zero))

pub returns-in_err-extend_from_slice-clause-some : goal.returns-in_err-extend_from_slice-clause-some
returns-in_err-extend_from_slice-clause-some g c = λ bytes e.
    let text = c.loop-source.text in
    took_more c.args.limit bytes text.items c.read_piece.new.piece c.in_ok-count.count _ _ (c.loop-source.invariant.taken bytes e) c.in_ok-count.ensures.bytes.0 (omega (arith, text.ok.0, c.in_ok-count.ensures.count.0, c.len-in-loop-source.ensures))

pub loop-source-preserved : goal.loop-source-preserved
loop-source-preserved g c =
    let inv = c.loop-source.invariant in
    let text = c.loop-source.text in
    let read = c.in_ok-count.ensures in
    let kept = c.in_ok-extend_from_slice.ensures in
    let whole : length c.read_piece.new.piece ≡ c.loop-source.piece.len = omega (arith, c.read_piece.auto.piece, c.deref_mut.ensures.len) in
    record {
      room = inv.room;
      small = omega (arith, text.ok.0, read.count.0, c.len-in-loop-source.ensures, kept.len, inv.small, length-take c.in_ok-count.count c.deref.result.now);
      none_failed = read.cause.none_failed ∙ inv.none_failed;
      taken = λ bytes e. subst (λ (xs : List ℕ). HasTaken bytes xs (g.S.Source.left c.read_piece.new.source)) (sym (kept_piece _ c.read_piece.new.piece _ _ _ _ _ whole c.deref.ensures.value kept.items))
          (taken_more bytes text.items (take c.in_ok-count.count c.read_piece.new.piece) _ _ (inv.taken bytes e) read.bytes.0);
    }

pub returns-clause-ok : goal.returns-clause-ok
returns-clause-ok g c = λ bytes e.
    let text = c.loop-source.text in
    took_past c.args.limit bytes text.items _ (omega (arith, text.ok.0, c.len.ensures, c.loop-source-test.false, c.loop-source.invariant.small)) (c.loop-source.invariant.taken bytes e)
