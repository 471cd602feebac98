-- The rows of a state's lines, and their bytes.
use Rattle.std.specs.Prelude.{◌≡◌, ◌++◌, ℕ, List, true, map}
use Rattle.yw_codec.specs.Fields.{is_list, is_u64, list_bytes, u64_bytes}
use Rattle.yw_restore.specs.Lines.{due_line_bytes, ident_of_mark, is_due_line, is_item_line, is_mark_line, is_net_line, is_person_line, is_run_line, is_text_line, is_token_line, item_line_bytes, mark_line_bytes, net_line_bytes, person_line_bytes, row_of_due, row_of_item, row_of_net, row_of_person, row_of_run, row_of_token, run_line_bytes, text_line_bytes, text_of_line, token_line_bytes}
use Rattle.yw_restore.specs.declared.lines.CaseLines.{CaseLines}
use Rattle.yw_restore.specs.declared.write.StateLines.{StateLines}
use Rattle.yw_states.specs.Ascending.{is_ascending}
use Rattle.yw_states.specs.Rows.{ended_row_bytes, is_ended_row, is_tree_row, tree_before, tree_row_bytes}
use Rattle.yw_states.specs.declared.rows.Rows.{Rows}

abbrev pub rows_of_lines : StateLines → Rows
rows_of_lines l = record {
  next = l.next;
  persons = map row_of_person l.persons;
  texts = map text_of_line l.texts;
  trees = l.trees.now;
  nets = map row_of_net l.cases.nets;
  tokens = map row_of_token l.cases.tokens;
  items = map row_of_item l.cases.items;
  runs = map row_of_run l.cases.runs;
  suspended = map ident_of_mark l.cases.suspended;
  due = map row_of_due l.cases.due;
  ended = l.ended;
}

-- the lines of what stands in cases, with the rest after them
abbrev pub from_nets : CaseLines → List ℕ → List ℕ
from_nets l rest =
    list_bytes net_line_bytes l.nets ++ (list_bytes token_line_bytes l.tokens ++ (list_bytes item_line_bytes l.items
    ++ (list_bytes run_line_bytes l.runs ++ (list_bytes mark_line_bytes l.suspended ++ (list_bytes due_line_bytes l.due ++ rest)))))

abbrev pub lines_bytes : StateLines → List ℕ
lines_bytes l =
    u64_bytes l.next ++ (list_bytes person_line_bytes l.persons ++ (list_bytes text_line_bytes l.texts
    ++ (list_bytes tree_row_bytes l.trees.now ++ from_nets l.cases (list_bytes ended_row_bytes l.ended))))

-- Each line of what stands in cases is in its range, and so is how many there are.
pub record AreCasesInRange (l : CaseLines) : Type 0 where
  pub nets : is_list is_net_line l.nets ≡ true
  pub tokens : is_list is_token_line l.tokens ≡ true
  pub items : is_list is_item_line l.items ≡ true
  pub runs : is_list is_run_line l.runs ≡ true
  pub suspended : is_list is_mark_line l.suspended ≡ true
  pub due : is_list is_due_line l.due ≡ true

-- Each line of a state is.
pub record AreInRange (l : StateLines) : Type 0 where
  pub next : is_u64 l.next ≡ true
  pub persons : is_list is_person_line l.persons ≡ true
  pub texts : is_list is_text_line l.texts ≡ true
  pub trees : is_ascending is_tree_row tree_before l.trees.now ≡ true
  pub cases : AreCasesInRange l.cases
  pub ended : is_list is_ended_row l.ended ≡ true
