-- The lines of a state are its rows, and their bytes are its bytes.
use Rattle.std.proofs.Common.{◌≡◌, ◌∙◌, ◌&&◌, ◌++◌, ◌∷◌, [], ℕ, Bool, true, List, length, map, ap, sym}
use Rattle.std.proofs.lemmas.List.{length-map}
use Rattle.std.proofs.lemmas.List.Folds.{flat_map-map, list_all-map}
use Rattle.std.specs.List.{list_all}
use Rattle.std.specs.Prelude.{flat_map}
use Rattle.yw_codec.specs.FieldLaws.{both_true}
use Rattle.yw_codec.specs.Fields.{identity_bytes, is_list, is_text, is_u32, is_u64, list_bytes, text_bytes, u32_bytes, u64_bytes}
use Rattle.yw_base.specs.Identity.{is_identity}
use Rattle.yw_restore.specs.Gathers.{Gathers}
use Rattle.yw_restore.specs.Lines.{ident_of_mark, no_lines, row_of_due, row_of_item, row_of_net, row_of_person, row_of_run, row_of_token, text_of_line}
use Rattle.yw_restore.specs.Written.{AreInRange, lines_bytes, rows_of_lines}
use Rattle.yw_restore.specs.declared.write.StateLines.{StateLines}
use Rattle.yw_state.specs.Map.{entries}
use Rattle.yw_state.specs.State.{State}
use Rattle.yw_states.specs.Ascending.{ident_before, is_ascending}
use Rattle.yw_states.specs.Rising.{KeysAscend}
use Rattle.yw_states.specs.Rows.{due_row_before, due_row_bytes, ended_before, ended_row_bytes, is_due_row, is_ended_row, is_item_row, is_net_row, is_person_row, is_rows, is_run_row, is_token_row, is_tree_row, item_row_before, item_row_bytes, net_row_before, net_row_bytes, person_before, person_row_bytes, rows_bytes, run_row_before, run_row_bytes, token_row_bytes, tree_before, tree_row_bytes}
use Rattle.yw_states.specs.States.{ended_row, person_row, rows_of, text_row, tree_row}
use Rattle.yw_states.specs.declared.rows.Rows.{Rows}

module _ {L R : Type 0} (f : L → R) where
  listed_bytes : (bytes : R → List ℕ) (ls : List L) → list_bytes (λ (l : L). bytes (f l)) ls ≡ list_bytes bytes (map f ls)
  listed_bytes bytes ls =
      ap (λ (n : ℕ). u32_bytes n ++ flat_map (λ (l : L). bytes (f l)) ls) (sym (length-map ls f))
      ∙ ap (λ z. u32_bytes (length (map f ls)) ++ z) (sym (flat_map-map bytes f ls))

  listed_range : (is : R → Bool) (ls : List L) → is_list (λ (l : L). is (f l)) ls ≡ true → is_list is (map f ls) ≡ true
  listed_range is ls e =
      ap (λ (b : Bool). b && is_u32 (length (map f ls))) (list_all-map is f ls)
      ∙ ap (λ (n : ℕ). list_all (λ (l : L). is (f l)) ls && is_u32 n) (length-map ls f) ∙ e

pub bytes_are : (l : StateLines) → lines_bytes l ≡ rows_bytes (rows_of_lines l)
bytes_are l =
    let persons = listed_bytes row_of_person person_row_bytes l.persons in
    let texts = listed_bytes text_of_line text_bytes l.texts in
    let nets = listed_bytes row_of_net net_row_bytes l.cases.nets in
    let tokens = listed_bytes row_of_token token_row_bytes l.cases.tokens in
    let items = listed_bytes row_of_item item_row_bytes l.cases.items in
    let runs = listed_bytes row_of_run run_row_bytes l.cases.runs in
    let suspended = listed_bytes ident_of_mark identity_bytes l.cases.suspended in
    let due = listed_bytes row_of_due due_row_bytes l.cases.due in
    λ i. u64_bytes l.next ++ (persons i ++ (texts i ++ (list_bytes tree_row_bytes l.trees.now ++ (nets i ++ (tokens i ++ (items i ++ (runs i
    ++ (suspended i
    ++ (due i ++ list_bytes ended_row_bytes l.ended)))))))))

both : {p q : Bool} → p ≡ true → q ≡ true → (p && q) ≡ true
both {p} {q} e d = both_true p q e d

pub in_range : (l : StateLines) → AreInRange l → KeysAscend (rows_of_lines l) → is_rows (rows_of_lines l) ≡ true
in_range l range keys =
    let rows = rows_of_lines l in
    let cases = range.cases in
    let persons : is_ascending is_person_row person_before rows.persons ≡ true = both
    (listed_range row_of_person is_person_row l.persons range.persons) keys.persons in
    let texts : is_list is_text rows.texts ≡ true = listed_range text_of_line is_text l.texts range.texts in
    let nets : is_ascending is_net_row net_row_before rows.nets ≡ true = both
    (listed_range row_of_net is_net_row l.cases.nets cases.nets) keys.nets in
    let tokens : is_list is_token_row rows.tokens ≡ true = listed_range row_of_token is_token_row l.cases.tokens cases.tokens in
    let items : is_ascending is_item_row item_row_before rows.items ≡ true = both
    (listed_range row_of_item is_item_row l.cases.items cases.items) keys.items in
    let runs : is_ascending is_run_row run_row_before rows.runs ≡ true = both
    (listed_range row_of_run is_run_row l.cases.runs cases.runs) keys.runs in
    let suspended : is_ascending is_identity ident_before rows.suspended ≡ true
    = both (listed_range ident_of_mark is_identity l.cases.suspended cases.suspended) keys.suspended in
    let due : is_ascending is_due_row due_row_before rows.due ≡ true = both (listed_range row_of_due is_due_row l.cases.due cases.due) keys.due in
    let ended : is_ascending is_ended_row ended_before rows.ended ≡ true = both range.ended keys.ended in
    both range.next (both persons (both texts (both range.trees (both nets (both tokens (both items (both runs (both suspended
    (both due ended)))))))))

pub rows_are : (s : State) (l : StateLines) → l.next ≡ s.next → map row_of_person l.persons ≡ map person_row (entries s.persons)
    → map text_of_line l.texts ≡ map text_row (entries s.specs) → l.trees.now ≡ (rows_of s).trees → Gathers s (entries s.sites) no_lines l.cases
    → l.ended ≡ map ended_row (entries s.ended) → rows_of_lines l ≡ rows_of s
rows_are s l next persons texts trees cases ended = λ i. record {
  next = next i;
  persons = persons i;
  texts = texts i;
  trees = trees i;
  nets = cases.nets i;
  tokens = cases.tokens i;
  items = cases.items i;
  runs = cases.runs i;
  suspended = cases.suspended i;
  due = cases.due i;
  ended = ended i;
}
