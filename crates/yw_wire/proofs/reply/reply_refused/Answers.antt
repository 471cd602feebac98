use Rattle.std.proofs.Common.{refl}
use Rattle.yw_lines.specs.Replies.{refused_line, refused_data}
use Rattle.yw_wire.proofs.reply.reply_refused.Goals as goal

pub returns : goal.returns
unfolding refused_line
returns c = c.sent_line.ensures (refused_data c.args.n c.args.refusal.now) (λ log sent. sent) refl
