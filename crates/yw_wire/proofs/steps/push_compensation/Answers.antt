use Rattle.std.proofs.Common.{◌∙◌, ◌++◌, ap, append_assoc, string_bytes}
use Rattle.yw_lines.specs.Primitives.{compensate_front}
use Rattle.yw_wire.proofs.steps.push_compensation.Goals as goal

pub returns : goal.returns
returns c =
    let text = string_bytes c.args.text.now in
    let name = c.as_str.result.now in
    c.in_ok-push_str-2.ensures.bytes ∙ ap (λ t. t ++ name) c.in_ok-push_str.ensures.bytes
    ∙ append_assoc text compensate_front name ∙ ap (λ n. text ++ (compensate_front ++ n)) c.as_str.ensures.text
