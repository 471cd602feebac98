use Rattle.std.proofs.Common.{◌≡◌, ℕ, List, Bool, false, refl}
use Rattle.std.proofs.lemmas.Bool.{or_from}
use Rattle.serde_json.specs.Written.{has_float}
use Rattle.yw_lines.specs.Answers.{list_data}
use Rattle.yw_lines.specs.Replies.{done_line, done_data}
use Rattle.yw_state.specs.declared.event.Event.{Event}
use Rattle.yw_wire.proofs.Floats.{list_is_whole}
use Rattle.yw_wire.proofs.reply.reply_done.Goals as goal
use Rattle.yw_wire.specs.Sent.{step_data}

has_float-done_data : (n : ℕ) (es : List Event) (quiet : Bool) → has_float (done_data n es quiet) ≡ false
has_float-done_data n es quiet = or_from (has_float (list_data step_data es)) false (list_is_whole step_data (λ _. refl) es) refl

pub returns : goal.returns
unfolding done_line
returns c =
    let n = c.args.n in
    let quiet = c.args.quiet in
    let events = c.args.events.now in
    c.sent_line.ensures (done_data n events quiet) (λ log sent. sent) (has_float-done_data n events quiet)
