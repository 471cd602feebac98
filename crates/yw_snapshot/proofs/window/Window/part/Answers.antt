use Rattle.std.proofs.Common.{List, ℕ, ap, ◌∙◌, ◌+◌, ◌-◌, take, drop, arith}
use Rattle.yw_snapshot.specs.Window.{room_of}
use Rattle.yw_snapshot.proofs.WindowLemmas.{part_shown}
use Rattle.yw_snapshot.proofs.window.Window.part.Goals as goal

pub returns-clause-shown : goal.returns-clause-shown
returns-clause-shown c = λ file shows.
    let window = c.args.self.now in
    let from = c.args.at - window.at in
    ap (λ (l : List ℕ). take (from + c.args.count - from) (drop from l)) c.deref.ensures.value
    ∙ ap (λ n. take n (drop from (room_of window))) (omega arith) ∙ part_shown file window c.args.at c.args.count c.requires.covers shows
