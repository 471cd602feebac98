use Rattle.std.proofs.Common.{refl}
use Rattle.serde_json.specs.Data.{string}
use Rattle.yw_lines.specs.Answers.{answer_data, answer_line}
use Rattle.yw_wire.proofs.Floats.{answer_is_whole}
use Rattle.yw_wire.proofs.answers.reply_text.Goals as goal

pub returns : goal.returns
unfolding answer_line
returns c =
    let answer = string c.args.text.now in
    c.sent_line.ensures (answer_data c.args.n answer) (λ log sent. sent) (answer_is_whole c.args.n answer (refl))
