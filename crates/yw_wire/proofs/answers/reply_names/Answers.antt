use Rattle.std.proofs.Common.{refl}
use Rattle.yw_lines.specs.Answers.{answer_data, answer_line, names_data}
use Rattle.yw_wire.proofs.Floats.{answer_is_whole, list_is_whole}
use Rattle.yw_wire.proofs.answers.reply_names.Goals as goal

pub returns : goal.returns
unfolding answer_line
returns c =
    let answer = names_data c.args.names.now in
    c.sent_line.ensures (answer_data c.args.n answer) (λ log sent. sent) (answer_is_whole c.args.n answer (list_is_whole _ (λ _. refl) c.args.names.now))
