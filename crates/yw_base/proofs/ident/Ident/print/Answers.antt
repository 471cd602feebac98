use Rattle.std.proofs.Common.{◌<◌, length, lit<, arith}
use Rattle.yw_base.proofs.DottedLemmas.{dotted-take_first, dotted-take_more}
use Rattle.yw_base.proofs.ident.Ident.print.Goals as goal
use Rattle.yw_base.proofs.ident.Ident.print.Goals.{then-i-gt0+in_ok-push, else-i-gt0}

pub loop-i-preserved : goal.loop-i-preserved
loop-i-preserved c =
    let within : c.loop-i.i < length c.deref-number-items.result.now = c.loop-i-test.true in
    elim c.if-i-gt0.branch [
      | then-i-gt0+in_ok-push w ↦ let e = dotted-take_more c.deref-number-items.result.now c.loop-i.i w.if-i-gt0.true within in let p = w.in_ok-push.ensures in let dot = p.ascii (lit< tt) in cc (w.text-is, p.bytes, dot, c.loop-i.invariant, c.in_ok-push_number.ensures)
      | else-i-gt0 w ↦ let e = dotted-take_first c.deref-number-items.result.now c.loop-i.i (omega arith) within in cc (w.text-is, c.loop-i.invariant, c.in_ok-push_number.ensures)
    ]
