use Rattle.std.proofs.Common.{◌≡◌, length, drop, arith, rules, length-drop}
use Rattle.yw_outside.specs.Image.{file_in}
use Rattle.yw_snapshot.proofs.GatesRead.{open_gate, cut_by_size}
use Rattle.yw_snapshot.proofs.gate.gate_at.Goals as goal

pub returns-then-from-len-clause-stands : goal.returns-then-from-len-clause-stands
returns-then-from-len-clause-stands g c = λ tells.
    let file = file_in c.args.f (g.D.Desk.state c.args.desk.now) in
    let rest = drop c.args.at file in
    let len : c.args.len ≡ length file = c.requires.len tells in
    let size = length-drop c.args.at file in
    let e = c.part-start.ensures.shown file (c.in_ok-reach.ensures.shows tells (c.requires.shows tells)) in
    cut_by_size c.from_be_bytes-size.result rest (open_gate 5 rest c.part-start.result.now (omega arith) (omega arith) e (search rules)) (search rules) (omega arith)
