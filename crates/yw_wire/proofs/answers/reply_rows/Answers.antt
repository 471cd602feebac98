use Rattle.yw_lines.specs.Answers.{answer_data, answer_line, rows_data}
use Rattle.yw_wire.proofs.Floats.{answer_is_whole, rows_are_whole}
use Rattle.yw_wire.proofs.answers.reply_rows.Goals as goal

pub returns : goal.returns
unfolding answer_line
returns c =
    let answer = rows_data c.args.rows.now in
    c.sent_line.ensures (answer_data c.args.n answer) (λ log sent. sent) (answer_is_whole c.args.n answer (rows_are_whole c.args.rows.now))
