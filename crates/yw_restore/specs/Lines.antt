-- The row of each line, its range and its bytes.
use Rattle.std.specs.Prelude.{ℕ, List, [], Bool}
use Rattle.yw_base.specs.Identity.{is_identity}
use Rattle.yw_codec.specs.Fields.{identity_bytes, is_text, text_bytes}
use Rattle.yw_restore.specs.declared.lines.CaseLines.{CaseLines}
use Rattle.yw_restore.specs.declared.lines.DueLine.{DueLine}
use Rattle.yw_restore.specs.declared.lines.ItemLine.{ItemLine}
use Rattle.yw_restore.specs.declared.lines.MarkLine.{MarkLine}
use Rattle.yw_restore.specs.declared.lines.NetLine.{NetLine}
use Rattle.yw_restore.specs.declared.lines.PersonLine.{PersonLine}
use Rattle.yw_restore.specs.declared.lines.RunLine.{RunLine}
use Rattle.yw_restore.specs.declared.lines.TextLine.{TextLine}
use Rattle.yw_restore.specs.declared.lines.TokenLine.{TokenLine}
use Rattle.yw_state.specs.Identity.{Ident}
use Rattle.yw_states.specs.Rows.{due_row_bytes, is_due_row, is_item_row, is_net_row, is_person_row, is_run_row, is_token_row, item_row_bytes, net_row_bytes, person_row_bytes, run_row_bytes, token_row_bytes}
use Rattle.yw_states.specs.declared.cases.DueRow.{DueRow}
use Rattle.yw_states.specs.declared.cases.ItemRow.{ItemRow}
use Rattle.yw_states.specs.declared.cases.NetRow.{NetRow}
use Rattle.yw_states.specs.declared.cases.RunRow.{RunRow}
use Rattle.yw_states.specs.declared.cases.TokenRow.{TokenRow}
use Rattle.yw_states.specs.declared.kept.PersonRow.{PersonRow}
use Rattle.yw_tree.specs.declared.Node.{out-Node}
use Rattle.yw_tree.specs.declared.Run.{out-Run}

-- ---- persons and texts

abbrev pub row_of_person : PersonLine → PersonRow
row_of_person l = record { name = l.name.now; roles = l.roles.now }

abbrev pub is_person_line : PersonLine → Bool
is_person_line l = is_person_row (row_of_person l)

abbrev pub person_line_bytes : PersonLine → List ℕ
person_line_bytes l = person_row_bytes (row_of_person l)

abbrev pub text_of_line : TextLine → List ℕ
text_of_line l = l.text.now

abbrev pub is_text_line : TextLine → Bool
is_text_line l = is_text (text_of_line l)

abbrev pub text_line_bytes : TextLine → List ℕ
text_line_bytes l = text_bytes (text_of_line l)

-- ---- what stands in cases

abbrev pub row_of_net : NetLine → NetRow
row_of_net l = record { ident = l.at.now; spec = l.spec.now; net = l.net.now; values = l.values.now }

abbrev pub is_net_line : NetLine → Bool
is_net_line l = is_net_row (row_of_net l)

abbrev pub net_line_bytes : NetLine → List ℕ
net_line_bytes l = net_row_bytes (row_of_net l)

abbrev pub row_of_token : TokenLine → TokenRow
row_of_token l = record { ident = l.at.now; place = l.place.now; count = l.count }

abbrev pub is_token_line : TokenLine → Bool
is_token_line l = is_token_row (row_of_token l)

abbrev pub token_line_bytes : TokenLine → List ℕ
token_line_bytes l = token_row_bytes (row_of_token l)

abbrev pub row_of_item : ItemLine → ItemRow
row_of_item l =
    let n = out-Node l.item.now in
    record { ident = l.at.now; task = l.task.now; stage = n.stage; given = n.given; made = n.made; who = n.who }

abbrev pub is_item_line : ItemLine → Bool
is_item_line l = is_item_row (row_of_item l)

abbrev pub item_line_bytes : ItemLine → List ℕ
item_line_bytes l = item_row_bytes (row_of_item l)

abbrev pub row_of_run : RunLine → RunRow
row_of_run l = let r = out-Run l.run.now in record { ident = l.at.now; waiting = r.waiting; rest = r.rest }

abbrev pub is_run_line : RunLine → Bool
is_run_line l = is_run_row (row_of_run l)

abbrev pub run_line_bytes : RunLine → List ℕ
run_line_bytes l = run_row_bytes (row_of_run l)

abbrev pub ident_of_mark : MarkLine → Ident
ident_of_mark l = l.at.now

abbrev pub is_mark_line : MarkLine → Bool
is_mark_line l = is_identity (ident_of_mark l)

abbrev pub mark_line_bytes : MarkLine → List ℕ
mark_line_bytes l = identity_bytes (ident_of_mark l)

abbrev pub row_of_due : DueLine → DueRow
row_of_due l = record { ident = l.at.now; due = l.due }

abbrev pub is_due_line : DueLine → Bool
is_due_line l = is_due_row (row_of_due l)

abbrev pub due_line_bytes : DueLine → List ℕ
due_line_bytes l = due_row_bytes (row_of_due l)

abbrev pub no_lines : CaseLines
no_lines = record { nets = []; tokens = []; items = []; runs = []; suspended = []; due = [] }
