-- The rows of a state: for each kind its range, its bytes and the order of its keys. Each is its fields, one after the other.
use Rattle.std.specs.Prelude.{◌&&◌, ◌++◌, ℕ, List, Bool}
use Rattle.std.specs.Ordering.{is_lt, nat_cmp}
use Rattle.yw_base.specs.Identity.{is_identity}
use Rattle.yw_base.specs.Spelling.{is_name}
use Rattle.yw_codec.specs.Fields.{is_u32, u32_bytes, is_u64, u64_bytes, is_flag, flag_bytes, name_bytes, is_name_or_none, name_or_none_bytes, is_text, text_bytes, identity_bytes, is_list, list_bytes, is_short_list, short_list_bytes, is_row, row_bytes, is_place, place_bytes, is_tree, tree_bytes, is_primitive, primitive_bytes, is_conclusion, conclusion_bytes}
use Rattle.yw_codec.specs.Parts.{is_checks, checks_bytes, is_stage, stage_bytes, is_way, way_bytes}
use Rattle.yw_state.specs.Judged.{place_key}
use Rattle.yw_state.specs.Map.{lexical, lexical_each}
use Rattle.yw_states.specs.Ascending.{ident_before, is_ascending}
use Rattle.yw_states.specs.declared.cases.DueRow.{DueRow}
use Rattle.yw_states.specs.declared.cases.EndedRow.{EndedRow}
use Rattle.yw_states.specs.declared.cases.ItemRow.{ItemRow}
use Rattle.yw_states.specs.declared.cases.NetRow.{NetRow}
use Rattle.yw_states.specs.declared.cases.RunRow.{RunRow}
use Rattle.yw_states.specs.declared.cases.TokenRow.{TokenRow}
use Rattle.yw_states.specs.declared.kept.PersonRow.{PersonRow}
use Rattle.yw_states.specs.declared.kept.RuleRow.{RuleRow}
use Rattle.yw_states.specs.declared.kept.TreeRow.{TreeRow}
use Rattle.yw_states.specs.declared.rows.Rows.{Rows}

-- ---- persons and rule trees

abbrev pub is_person_row : PersonRow → Bool
is_person_row row = is_name row.name && is_short_list is_name row.roles

abbrev pub person_row_bytes : PersonRow → List ℕ
person_row_bytes row = name_bytes row.name ++ short_list_bytes name_bytes row.roles

abbrev pub person_before : PersonRow → PersonRow → Bool
person_before a b = is_lt (lexical a.name b.name)

abbrev pub is_rule_row : RuleRow → Bool
is_rule_row row = is_u32 row.at && (is_flag row.side && (is_text row.when && is_conclusion row.conclusion))

abbrev pub rule_row_bytes : RuleRow → List ℕ
rule_row_bytes row = u32_bytes row.at ++ (flag_bytes row.side ++ (text_bytes row.when ++ conclusion_bytes row.conclusion))

abbrev pub is_tree_row : TreeRow → Bool
is_tree_row row = is_tree row.place && is_list is_rule_row row.rules

abbrev pub tree_row_bytes : TreeRow → List ℕ
tree_row_bytes row = tree_bytes row.place ++ list_bytes rule_row_bytes row.rules

abbrev pub tree_before : TreeRow → TreeRow → Bool
tree_before a b = is_lt (lexical_each (place_key a.place) (place_key b.place))

-- ---- what stands in cases, and cases that are over

abbrev pub is_net_row : NetRow → Bool
is_net_row row = is_identity row.ident && (is_name row.spec && (is_name row.net && is_row row.values))

abbrev pub net_row_bytes : NetRow → List ℕ
net_row_bytes row = identity_bytes row.ident ++ (name_bytes row.spec ++ (name_bytes row.net ++ row_bytes row.values))

abbrev pub net_row_before : NetRow → NetRow → Bool
net_row_before a b = ident_before a.ident b.ident

abbrev pub is_token_row : TokenRow → Bool
is_token_row row = is_identity row.ident && (is_place row.place && is_u32 row.count)

abbrev pub token_row_bytes : TokenRow → List ℕ
token_row_bytes row = identity_bytes row.ident ++ (place_bytes row.place ++ u32_bytes row.count)

abbrev pub is_item_row : ItemRow → Bool
is_item_row row = is_identity row.ident && (is_name row.task &&
    (is_stage row.stage && (is_row row.given && (is_row row.made && is_name_or_none row.who))))

abbrev pub item_row_bytes : ItemRow → List ℕ
item_row_bytes row = identity_bytes row.ident ++ (name_bytes row.task ++
    (stage_bytes row.stage ++ (row_bytes row.given ++ (row_bytes row.made ++ name_or_none_bytes row.who))))

abbrev pub item_row_before : ItemRow → ItemRow → Bool
item_row_before a b = ident_before a.ident b.ident

abbrev pub is_run_row : RunRow → Bool
is_run_row row = is_identity row.ident && (is_flag row.waiting && is_list is_primitive row.rest)

abbrev pub run_row_bytes : RunRow → List ℕ
run_row_bytes row = identity_bytes row.ident ++ (flag_bytes row.waiting ++ list_bytes primitive_bytes row.rest)

abbrev pub run_row_before : RunRow → RunRow → Bool
run_row_before a b = ident_before a.ident b.ident

abbrev pub is_due_row : DueRow → Bool
is_due_row row = is_identity row.ident && is_checks row.due

abbrev pub due_row_bytes : DueRow → List ℕ
due_row_bytes row = identity_bytes row.ident ++ checks_bytes row.due

abbrev pub due_row_before : DueRow → DueRow → Bool
due_row_before a b = ident_before a.ident b.ident

abbrev pub is_ended_row : EndedRow → Bool
is_ended_row row = is_u64 row.case && is_way row.way

abbrev pub ended_row_bytes : EndedRow → List ℕ
ended_row_bytes row = u64_bytes row.case ++ way_bytes row.way

abbrev pub ended_before : EndedRow → EndedRow → Bool
ended_before a b = is_lt (nat_cmp a.case b.case)

-- ---- all of them

abbrev pub is_rows : Rows → Bool
is_rows rows =
    is_u64 rows.next && (is_ascending is_person_row person_before rows.persons &&
    (is_list is_text rows.texts && (is_ascending is_tree_row tree_before rows.trees
    && (is_ascending is_net_row net_row_before rows.nets && (is_list is_token_row rows.tokens && (is_ascending is_item_row item_row_before rows.items
    && (is_ascending is_run_row run_row_before rows.runs &&
    (is_ascending is_identity ident_before rows.suspended &&
    (is_ascending is_due_row due_row_before rows.due && is_ascending is_ended_row ended_before rows.ended)))))))))

abbrev pub rows_bytes : Rows → List ℕ
rows_bytes rows =
    u64_bytes rows.next ++ (list_bytes person_row_bytes rows.persons ++ (list_bytes text_bytes rows.texts ++ (list_bytes tree_row_bytes rows.trees
    ++ (list_bytes net_row_bytes rows.nets ++ (list_bytes token_row_bytes rows.tokens ++ (list_bytes item_row_bytes rows.items
    ++ (list_bytes run_row_bytes rows.runs ++ (list_bytes identity_bytes rows.suspended ++
    (list_bytes due_row_bytes rows.due ++ list_bytes ended_row_bytes rows.ended)))))))))
