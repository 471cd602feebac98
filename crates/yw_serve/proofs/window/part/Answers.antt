use Rattle.std.proofs.Common.{ap, ◌∙◌, ◌-◌, take, drop, arith}
use Rattle.yw_serve.proofs.WindowLemmas.{part_shown}
use Rattle.yw_serve.proofs.window.part.Goals as goal

pub returns-clause-bytes : goal.returns-clause-bytes
returns-clause-bytes c = λ file shows.
    let window = c.args.window.now in
    let piece = c.args.piece.now in
    ap (λ n. take n (drop (c.args.at - window.at) piece)) (omega arith) ∙ part_shown file piece window c.args.at c.args.count c.requires.covers shows
