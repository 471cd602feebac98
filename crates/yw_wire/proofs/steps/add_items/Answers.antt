use Rattle.std.proofs.Common.{◌≡◌, ◌+◌, ◌++◌, ap, arith, string_bytes, ◌∙◌}
use Rattle.yw_base.specs.Identity.{dotted, child}
use Rattle.yw_lines.specs.EventTexts.{item_idents}
use Rattle.yw_wire.proofs.StepLemmas.{goes_on, items_more, length-item_idents}
use Rattle.yw_wire.proofs.steps.add_items.Goals as goal

pub loop-k-preserved : goal.loop-k-preserved
loop-k-preserved c =
    let net = c.args.net.now in
    let number = c.from.result + c.from-in-loop-k.result in
    let grows = items_more net c.args.first c.loop-k.k number (omega arith) in
    let item : string_bytes c.push_child.new.text ≡ string_bytes c.push_comma.new.text ++ dotted (child net number) =
    c.in_ok-push_child.ensures ∙ ap (λ ns. string_bytes c.push_comma.new.text ++ dotted (child ns number)) c.numbers.ensures.numbers in
    goes_on (string_bytes c.push.new.self) (item_idents net c.args.first c.loop-k.k) (item_idents net c.args.first (c.loop-k.k + 1)) (dotted (child net number)) c.loop-k.k _ _ _ (length-item_idents net c.args.first c.loop-k.k) grows c.loop-k.invariant c.in_ok-push_comma.ensures item
