use Rattle.std.proofs.Common.{◌≡◌, ◌++◌, ◌∙◌, ℕ, List, OnOk, subst}
use Rattle.yw_codec.specs.Fields.{identity_bytes, list_bytes, text_bytes, u64_bytes}
use Rattle.yw_states.proofs.Written.{onto}
use Rattle.yw_states.specs.Rows.{due_row_bytes, ended_row_bytes, item_row_bytes, net_row_bytes, person_row_bytes, run_row_bytes, token_row_bytes, tree_row_bytes}
use Rattle.yw_states.proofs.rows.RowsField.write.Goals as goal

pub returns-clause-bytes : goal.returns-clause-bytes
returns-clause-bytes c =
    let rows = c.args.self.now in
    let old = c.args.out.now.items in
    let from_ended = list_bytes ended_row_bytes rows.ended in
    let from_due = list_bytes due_row_bytes rows.due ++ from_ended in
    let from_suspended = list_bytes identity_bytes rows.suspended ++ from_due in
    let from_runs = list_bytes run_row_bytes rows.runs ++ from_suspended in
    let from_items = list_bytes item_row_bytes rows.items ++ from_runs in
    let from_tokens = list_bytes token_row_bytes rows.tokens ++ from_items in
    let from_nets = list_bytes net_row_bytes rows.nets ++ from_tokens in
    let from_trees = list_bytes tree_row_bytes rows.trees ++ from_nets in
    let from_texts = list_bytes text_bytes rows.texts ++ from_trees in
    let from_persons = list_bytes person_row_bytes rows.persons ++ from_texts in
    subst (λ (l : List ℕ). OnOk c.write-11.result (c.write-11.new.out.items ≡ l))
    (onto c.write-9.new.out.items (list_bytes due_row_bytes rows.due) c.write-10.new.out.items from_ended c.in_ok-write-10.ensures.bytes
    ∙ onto c.write-8.new.out.items (list_bytes identity_bytes rows.suspended) c.write-9.new.out.items from_due c.in_ok-write-9.ensures.bytes
    ∙ onto c.write-7.new.out.items (list_bytes run_row_bytes rows.runs) c.write-8.new.out.items from_suspended c.in_ok-write-8.ensures.bytes
    ∙ onto c.write-6.new.out.items (list_bytes item_row_bytes rows.items) c.write-7.new.out.items from_runs c.in_ok-write-7.ensures.bytes
    ∙ onto c.write-5.new.out.items (list_bytes token_row_bytes rows.tokens) c.write-6.new.out.items from_items c.in_ok-write-6.ensures.bytes
    ∙ onto c.write-4.new.out.items (list_bytes net_row_bytes rows.nets) c.write-5.new.out.items from_tokens c.in_ok-write-5.ensures.bytes
    ∙ onto c.write-3.new.out.items (list_bytes tree_row_bytes rows.trees) c.write-4.new.out.items from_nets c.in_ok-write-4.ensures.bytes
    ∙ onto c.write-2.new.out.items (list_bytes text_bytes rows.texts) c.write-3.new.out.items from_trees c.in_ok-write-3.ensures.bytes
    ∙ onto c.write.new.out.items (list_bytes person_row_bytes rows.persons) c.write-2.new.out.items from_texts c.in_ok-write-2.ensures.bytes
    ∙ onto old (u64_bytes rows.next) c.write.new.out.items from_persons c.in_ok-write.ensures.bytes)
    c.write-11.ensures.bytes
