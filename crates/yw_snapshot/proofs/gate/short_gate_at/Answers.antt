use Rattle.std.proofs.Common.{drop, arith, rules, length-drop}
use Rattle.yw_outside.specs.Image.{file_in}
use Rattle.yw_snapshot.proofs.GatesRead.{open_gate, cut_short}
use Rattle.yw_snapshot.proofs.gate.short_gate_at.Goals as goal

pub returns-then-gate-eq1-clause-stands : goal.returns-then-gate-eq1-clause-stands
returns-then-gate-eq1-clause-stands g c = λ tells.
    let file = file_in c.args.f (g.D.Desk.state c.args.desk.now) in
    let rest = drop c.args.at file in
    let size = length-drop c.args.at file in
    let len = c.requires.len tells in
    cut_short rest (open_gate 1 rest c.read.new.buf (omega arith) (omega arith) (c.in_ok-read.ensures.bytes tells) (search rules)) (omega arith)
