use Rattle.yw_lines.specs.Answers.{answer_data, answer_line, shown_data}
use Rattle.yw_wire.proofs.Floats.{answer_is_whole, shown_is_whole}
use Rattle.yw_wire.proofs.answers.reply_shown.Goals as goal

pub returns : goal.returns
unfolding answer_line
returns c =
    let answer = shown_data c.args.shown.now in
    c.sent_line.ensures (answer_data c.args.n answer) (λ log sent. sent) (answer_is_whole c.args.n answer (shown_is_whole c.args.shown.now))
