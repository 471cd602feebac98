use Rattle.std.proofs.Common.{◌≡◌, ◌+◌, ◌++◌, ◌∙◌, take, drop, ap, arith}
use Rattle.yw_adapt.proofs.Pieces.{put_front, joined}
use Rattle.yw_adapt.proofs.slot.read_whole.Goals as goal

pub loop-done-preserved : goal.loop-done-preserved
loop-done-preserved g c =
    let (within, size, front, same) = c.loop-done.invariant in
    let n = c.in_ok-done.field-0 in (
      grind arith,
      grind arith,
      λ held e.
          let (low, bytes) = c.in_ok-done.ensures.bytes held e in
          let there : c.saturating_add.result ≡ c.args.at + c.loop-done.done = omega (arith, low, c.saturating_add.ensures) in
          put_front c.loop-done.done _ c.loop-done.buf c.read_at.new.buf n within c.in_ok-done.ensures.bound
          ∙ ap (λ l. l ++ take n c.read_at.new.buf) (front held e)
          ∙ ap (λ l. take c.loop-done.done (drop c.args.at held) ++ l) (bytes ∙ ap (λ m. take n (drop m held)) there)
          ∙ joined c.args.at c.loop-done.done n held,
      c.in_ok-done.ensures.counts.failed.one ∙ same,
    )
