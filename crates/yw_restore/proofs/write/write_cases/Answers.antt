use Rattle.std.proofs.Common.{◌∙◌, ◌++◌}
use Rattle.std.proofs.lemmas.Result.{on_ok_weaker}
use Rattle.yw_codec.specs.Fields.{list_bytes}
use Rattle.yw_restore.proofs.write.write_cases.Goals as goal
use Rattle.yw_restore.specs.Lines.{due_line_bytes, item_line_bytes, mark_line_bytes, net_line_bytes, run_line_bytes, token_line_bytes}
use Rattle.yw_states.proofs.Written.{onto}

pub returns-clause-bytes : goal.returns-clause-bytes
returns-clause-bytes c =
    let lines = c.args.lines.now in
    let old = c.args.out.now.items in
    let nets = list_bytes net_line_bytes lines.nets in
    let tokens = list_bytes token_line_bytes lines.tokens in
    let items = list_bytes item_line_bytes lines.items in
    let runs = list_bytes run_line_bytes lines.runs in
    let suspended = list_bytes mark_line_bytes lines.suspended in
    let due = list_bytes due_line_bytes lines.due in
    on_ok_weaker c.write_lines-6.result (λ last rest.
    let from_due = due ++ rest in
    let from_suspended = suspended ++ from_due in
    let from_runs = runs ++ from_suspended in
    let from_items = items ++ from_runs in
    let from_tokens = tokens ++ from_items in
    onto c.write_lines-5.new.out.items due c.write_lines-6.new.out.items rest last
    ∙ onto c.write_lines-4.new.out.items suspended c.write_lines-5.new.out.items from_due c.in_ok-write_lines-5.ensures.bytes
    ∙ onto c.write_lines-3.new.out.items runs c.write_lines-4.new.out.items from_suspended c.in_ok-write_lines-4.ensures.bytes
    ∙ onto c.write_lines-2.new.out.items items c.write_lines-3.new.out.items from_runs c.in_ok-write_lines-3.ensures.bytes
    ∙ onto c.write_lines.new.out.items tokens c.write_lines-2.new.out.items from_items c.in_ok-write_lines-2.ensures.bytes
    ∙ onto old nets c.write_lines.new.out.items from_tokens c.in_ok-write_lines.ensures.bytes)
    c.write_lines-6.ensures.bytes

pub returns-clause-range : goal.returns-clause-range
returns-clause-range c =
    on_ok_weaker c.write_lines-6.result (λ last. record {
      nets = c.in_ok-write_lines.ensures.range;
      tokens = c.in_ok-write_lines-2.ensures.range;
      items = c.in_ok-write_lines-3.ensures.range;
      runs = c.in_ok-write_lines-4.ensures.range;
      suspended = c.in_ok-write_lines-5.ensures.range;
      due = last;
    }) c.write_lines-6.ensures.range
