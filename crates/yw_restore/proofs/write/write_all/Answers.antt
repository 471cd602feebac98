use Rattle.std.proofs.Common.{◌∙◌, ◌++◌}
use Rattle.std.proofs.lemmas.Result.{on_ok_weaker}
use Rattle.yw_codec.specs.Fields.{list_bytes, u64_bytes}
use Rattle.yw_restore.proofs.write.write_all.Goals as goal
use Rattle.yw_restore.specs.Lines.{person_line_bytes, text_line_bytes}
use Rattle.yw_restore.specs.Written.{from_nets}
use Rattle.yw_states.proofs.Written.{onto}
use Rattle.yw_states.specs.Rows.{ended_row_bytes, tree_row_bytes}

pub returns-clause-bytes : goal.returns-clause-bytes
returns-clause-bytes c =
    let lines = c.args.lines.now in
    let old = c.args.out.now.items in
    let ended = list_bytes ended_row_bytes lines.ended in
    let persons = list_bytes person_line_bytes lines.persons in
    let texts = list_bytes text_line_bytes lines.texts in
    let trees = list_bytes tree_row_bytes lines.trees.now in
    let from_cases = from_nets lines.cases ended in
    let from_trees = trees ++ from_cases in
    let from_texts = texts ++ from_trees in
    let from_persons = persons ++ from_texts in
    on_ok_weaker c.write-3.result (λ last.
    last ∙ c.in_ok-write_cases.ensures.bytes ended
    ∙ onto c.write_lines-2.new.out.items trees c.write-2.new.out.items from_cases c.in_ok-write-2.ensures.bytes
    ∙ onto c.write_lines.new.out.items texts c.write_lines-2.new.out.items from_trees c.in_ok-write_lines-2.ensures.bytes
    ∙ onto c.write.new.out.items persons c.write_lines.new.out.items from_texts c.in_ok-write_lines.ensures.bytes
    ∙ onto old (u64_bytes lines.next) c.write.new.out.items from_persons c.in_ok-write.ensures.bytes)
    c.write-3.ensures.bytes

pub returns-clause-range : goal.returns-clause-range
returns-clause-range c =
    on_ok_weaker c.write-3.result (λ last. record {
      next = c.in_ok-write.ensures.range;
      persons = c.in_ok-write_lines.ensures.range;
      texts = c.in_ok-write_lines-2.ensures.range;
      trees = c.in_ok-write-2.ensures.range;
      cases = c.in_ok-write_cases.ensures.range;
      ended = last;
    }) c.write-3.ensures.range
