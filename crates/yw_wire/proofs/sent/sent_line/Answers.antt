use Rattle.std.proofs.Common.{List, ℕ, ◌∙◌, ◌++◌, ◌∷◌, [], ap}
use Rattle.serde_json.proofs.FreeTexts.{text_of_value}
use Rattle.yw_wire.proofs.sent.sent_line.Goals as goal

-- the text of what was sent, and a newline
pub returns : goal.returns
returns g c d sends whole =
    let sent = c.in-Ok.ensures.events in
    c.from_vec.ensures ∙ c.in_ok-push.ensures.items ∙ ap (λ (text : List ℕ). text ++ 10 ∷ []) (text_of_value d sent.0 c.in-Ok.line.items (sends sent.0 sent.1) sent.2 whole)
