use Rattle.std.proofs.Common.{◌≡◌, List, ℕ, OnOk, string_bytes, subst}
use Rattle.std.proofs.lemmas.List.{take_all}
use Rattle.yw_wire.proofs.StepLemmas.{child_written}
use Rattle.yw_wire.proofs.steps.push_child.Goals as goal

pub returns : goal.returns
returns c =
    let all = take_all c.loop-before.before-index c.args.numbers.now c.loop-before-test.false in
    let written = child_written (string_bytes c.args.text.now) c.args.numbers.now _ c.args.number (string_bytes c.loop-before.text) c.loop-before.invariant all in
    subst (λ (t : List ℕ). OnOk c.write-2.result (string_bytes c.write-2.new.self ≡ t)) written c.write-2.ensures.bytes
