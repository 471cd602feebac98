-- The bytes of rows tell where they end.
use Rattle.std.proofs.Common.{ℕ, List, Bool, Option, ap}
use Rattle.yw_base.specs.Identity.{is_identity}
use Rattle.yw_base.specs.Spelling.{is_name}
use Rattle.yw_base.specs.declared.value.Value.{Value}
use Rattle.yw_codec.specs.FieldLaws.{u32_apart, u64_apart, flag_apart, name_apart, name_or_none_apart, text_apart, pair_apart}
use Rattle.yw_codec.specs.Fields.{is_u32, u32_bytes, is_u64, u64_bytes, is_flag, flag_bytes, name_bytes, is_name_or_none, name_or_none_bytes, is_text, text_bytes, identity_bytes, is_list, list_bytes, is_short_list, short_list_bytes, is_row, row_bytes, is_place, place_bytes, is_tree, tree_bytes, is_primitive, primitive_bytes, is_conclusion, conclusion_bytes, is_value, value_bytes}
use Rattle.yw_codec.specs.Forms.{Stands, NoneStands, AreApart, pair_is, pair_bytes}
use Rattle.yw_codec.specs.ListLaws.{list_apart, short_list_apart, identity_apart}
use Rattle.yw_codec.specs.Parts.{is_checks, checks_bytes, checks_apart, is_stage, stage_bytes, stage_apart, is_way, way_bytes, way_apart}
use Rattle.yw_codec.specs.PlaceLaws.{place_apart}
use Rattle.yw_codec.specs.TreeLaws.{tree_apart, primitive_apart, conclusion_apart}
use Rattle.yw_codec.specs.ValueLaws.{value_apart}
use Rattle.yw_spec.specs.declared.spec.Place.{Place}
use Rattle.yw_state.specs.declared.part.Checks.{Checks}
use Rattle.yw_state.specs.declared.part.Stage.{Stage}
use Rattle.yw_state.specs.declared.part.Way.{Way}
use Rattle.yw_state.specs.declared.tree.Conclusion.{Conclusion}
use Rattle.yw_state.specs.declared.tree.Primitive.{Primitive}
use Rattle.yw_state.specs.declared.tree.TreePlace.{TreePlace}
use Rattle.yw_states.specs.Ascending.{ascending_apart, ident_before, is_ascending}
use Rattle.yw_states.specs.Rows.{is_person_row, person_row_bytes, is_rule_row, rule_row_bytes, is_tree_row, tree_row_bytes, is_net_row, net_row_bytes, is_token_row, token_row_bytes, is_item_row, item_row_bytes, is_run_row, run_row_bytes, is_due_row, due_row_bytes, is_ended_row, ended_row_bytes, person_before, tree_before, net_row_before, item_row_before, run_row_before, due_row_before, ended_before, is_rows, rows_bytes}
use Rattle.yw_states.specs.declared.cases.DueRow.{DueRow}
use Rattle.yw_states.specs.declared.cases.EndedRow.{EndedRow}
use Rattle.yw_states.specs.declared.cases.ItemRow.{ItemRow}
use Rattle.yw_states.specs.declared.cases.NetRow.{NetRow}
use Rattle.yw_states.specs.declared.cases.RunRow.{RunRow}
use Rattle.yw_states.specs.declared.cases.TokenRow.{TokenRow}
use Rattle.yw_states.specs.declared.kept.PersonRow.{PersonRow}
use Rattle.yw_states.specs.declared.kept.RuleRow.{RuleRow}
use Rattle.yw_states.specs.declared.kept.TreeRow.{TreeRow}
use Rattle.yw_states.specs.declared.rows.Rows.{Rows}

-- ---- person rows

abbrev person_row_fields : PersonRow → (List ℕ) × (List (List ℕ))
person_row_fields row = (row.name, row.roles)

abbrev person_row_of : ((List ℕ) × (List (List ℕ))) → PersonRow
person_row_of f = record { name = f.0; roles = f.1 }

person_row_stands : (row : PersonRow) (whole rest : List ℕ) → Stands is_person_row person_row_bytes whole row rest
    → Stands (pair_is is_name (is_short_list is_name)) (pair_bytes name_bytes (short_list_bytes name_bytes)) whole (person_row_fields row) rest
person_row_stands row whole rest s = record { in_range = s.in_range; split = s.split }

pub person_row_apart : AreApart is_person_row person_row_bytes
person_row_apart v w whole x y s t =
    let same = pair_apart is_name name_bytes (is_short_list is_name) (short_list_bytes name_bytes) name_apart
    (short_list_apart is_name name_bytes name_apart) (person_row_fields v) (person_row_fields w) whole x y (person_row_stands v whole x s)
    (person_row_stands w whole y t) in
    (ap person_row_of same.0, same.1)

pub no_person_row : (whole : List ℕ) → NoneStands (pair_is is_name (is_short_list is_name)) (pair_bytes name_bytes
    (short_list_bytes name_bytes)) whole → NoneStands is_person_row person_row_bytes whole
no_person_row whole none row rest s = none (person_row_fields row) rest (person_row_stands row whole rest s)

-- ---- rule rows

abbrev rule_row_fields : RuleRow → ℕ × (Bool × ((List ℕ) × Conclusion))
rule_row_fields row = (row.at, (row.side, (row.when, row.conclusion)))

abbrev rule_row_of : (ℕ × (Bool × ((List ℕ) × Conclusion))) → RuleRow
rule_row_of f = record { at = f.0; side = f.1.0; when = f.1.1.0; conclusion = f.1.1.1 }

rule_row_stands : (row : RuleRow) (whole rest : List ℕ) → Stands is_rule_row rule_row_bytes whole row rest
    → Stands (pair_is is_u32 (pair_is is_flag (pair_is is_text is_conclusion)))
    (pair_bytes u32_bytes (pair_bytes flag_bytes (pair_bytes text_bytes conclusion_bytes))) whole (rule_row_fields row) rest
rule_row_stands row whole rest s = record { in_range = s.in_range; split = s.split }

pub rule_row_apart : AreApart is_rule_row rule_row_bytes
rule_row_apart v w whole x y s t =
    let same = pair_apart is_u32 u32_bytes (pair_is is_flag (pair_is is_text is_conclusion))
    (pair_bytes flag_bytes (pair_bytes text_bytes conclusion_bytes)) u32_apart
    (pair_apart is_flag flag_bytes (pair_is is_text is_conclusion) (pair_bytes text_bytes conclusion_bytes) flag_apart
    (pair_apart is_text text_bytes is_conclusion conclusion_bytes text_apart conclusion_apart)) (rule_row_fields v) (rule_row_fields w) whole x y
    (rule_row_stands v whole x s) (rule_row_stands w whole y t) in
    (ap rule_row_of same.0, same.1)

pub no_rule_row : (whole : List ℕ) → NoneStands (pair_is is_u32 (pair_is is_flag (pair_is is_text is_conclusion))) (pair_bytes u32_bytes
    (pair_bytes flag_bytes (pair_bytes text_bytes conclusion_bytes))) whole → NoneStands is_rule_row rule_row_bytes whole
no_rule_row whole none row rest s = none (rule_row_fields row) rest (rule_row_stands row whole rest s)

-- ---- tree rows

abbrev tree_row_fields : TreeRow → TreePlace × (List RuleRow)
tree_row_fields row = (row.place, row.rules)

abbrev tree_row_of : (TreePlace × (List RuleRow)) → TreeRow
tree_row_of f = record { place = f.0; rules = f.1 }

tree_row_stands : (row : TreeRow) (whole rest : List ℕ) → Stands is_tree_row tree_row_bytes whole row rest
    → Stands (pair_is is_tree (is_list is_rule_row)) (pair_bytes tree_bytes (list_bytes rule_row_bytes)) whole (tree_row_fields row) rest
tree_row_stands row whole rest s = record { in_range = s.in_range; split = s.split }

pub tree_row_apart : AreApart is_tree_row tree_row_bytes
tree_row_apart v w whole x y s t =
    let same = pair_apart is_tree tree_bytes (is_list is_rule_row) (list_bytes rule_row_bytes) tree_apart
    (list_apart is_rule_row rule_row_bytes rule_row_apart) (tree_row_fields v) (tree_row_fields w) whole x y (tree_row_stands v whole x s)
    (tree_row_stands w whole y t) in
    (ap tree_row_of same.0, same.1)

pub no_tree_row : (whole : List ℕ) → NoneStands (pair_is is_tree (is_list is_rule_row)) (pair_bytes tree_bytes (list_bytes rule_row_bytes)) whole
    → NoneStands is_tree_row tree_row_bytes whole
no_tree_row whole none row rest s = none (tree_row_fields row) rest (tree_row_stands row whole rest s)

-- ---- net rows

abbrev net_row_fields : NetRow → (List ℕ) × ((List ℕ) × ((List ℕ) × (List Value)))
net_row_fields row = (row.ident, (row.spec, (row.net, row.values)))

abbrev net_row_of : ((List ℕ) × ((List ℕ) × ((List ℕ) × (List Value)))) → NetRow
net_row_of f = record { ident = f.0; spec = f.1.0; net = f.1.1.0; values = f.1.1.1 }

net_row_stands : (row : NetRow) (whole rest : List ℕ) → Stands is_net_row net_row_bytes whole row rest
    → Stands (pair_is is_identity (pair_is is_name (pair_is is_name is_row)))
    (pair_bytes identity_bytes (pair_bytes name_bytes (pair_bytes name_bytes row_bytes))) whole (net_row_fields row) rest
net_row_stands row whole rest s = record { in_range = s.in_range; split = s.split }

pub net_row_apart : AreApart is_net_row net_row_bytes
net_row_apart v w whole x y s t =
    let same = pair_apart is_identity identity_bytes (pair_is is_name (pair_is is_name is_row))
    (pair_bytes name_bytes (pair_bytes name_bytes row_bytes)) identity_apart
    (pair_apart is_name name_bytes (pair_is is_name is_row) (pair_bytes name_bytes row_bytes) name_apart
    (pair_apart is_name name_bytes is_row row_bytes name_apart (list_apart is_value value_bytes value_apart))) (net_row_fields v)
    (net_row_fields w) whole x y (net_row_stands v whole x s) (net_row_stands w whole y t) in
    (ap net_row_of same.0, same.1)

pub no_net_row : (whole : List ℕ) → NoneStands (pair_is is_identity (pair_is is_name (pair_is is_name is_row))) (pair_bytes identity_bytes
    (pair_bytes name_bytes (pair_bytes name_bytes row_bytes))) whole → NoneStands is_net_row net_row_bytes whole
no_net_row whole none row rest s = none (net_row_fields row) rest (net_row_stands row whole rest s)

-- ---- token rows

abbrev token_row_fields : TokenRow → (List ℕ) × (Place × ℕ)
token_row_fields row = (row.ident, (row.place, row.count))

abbrev token_row_of : ((List ℕ) × (Place × ℕ)) → TokenRow
token_row_of f = record { ident = f.0; place = f.1.0; count = f.1.1 }

token_row_stands : (row : TokenRow) (whole rest : List ℕ) → Stands is_token_row token_row_bytes whole row rest
    → Stands (pair_is is_identity (pair_is is_place is_u32)) (pair_bytes identity_bytes (pair_bytes place_bytes u32_bytes)) whole
    (token_row_fields row) rest
token_row_stands row whole rest s = record { in_range = s.in_range; split = s.split }

pub token_row_apart : AreApart is_token_row token_row_bytes
token_row_apart v w whole x y s t =
    let same = pair_apart is_identity identity_bytes (pair_is is_place is_u32) (pair_bytes place_bytes u32_bytes) identity_apart
    (pair_apart is_place place_bytes is_u32 u32_bytes place_apart u32_apart) (token_row_fields v) (token_row_fields w) whole x y
    (token_row_stands v whole x s) (token_row_stands w whole y t) in
    (ap token_row_of same.0, same.1)

pub no_token_row : (whole : List ℕ) → NoneStands (pair_is is_identity (pair_is is_place is_u32)) (pair_bytes identity_bytes
    (pair_bytes place_bytes u32_bytes)) whole → NoneStands is_token_row token_row_bytes whole
no_token_row whole none row rest s = none (token_row_fields row) rest (token_row_stands row whole rest s)

-- ---- item rows

abbrev item_row_fields : ItemRow → (List ℕ) × ((List ℕ) × (Stage × ((List Value) × ((List Value) × (Option (List ℕ))))))
item_row_fields row = (row.ident, (row.task, (row.stage, (row.given, (row.made, row.who)))))

abbrev item_row_of : ((List ℕ) × ((List ℕ) × (Stage × ((List Value) × ((List Value) × (Option (List ℕ))))))) → ItemRow
item_row_of f = record { ident = f.0; task = f.1.0; stage = f.1.1.0; given = f.1.1.1.0; made = f.1.1.1.1.0; who = f.1.1.1.1.1 }

item_row_stands : (row : ItemRow) (whole rest : List ℕ) → Stands is_item_row item_row_bytes whole row rest
    → Stands (pair_is is_identity (pair_is is_name (pair_is is_stage (pair_is is_row (pair_is is_row is_name_or_none)))))
    (pair_bytes identity_bytes (pair_bytes name_bytes
    (pair_bytes stage_bytes (pair_bytes row_bytes (pair_bytes row_bytes name_or_none_bytes))))) whole (item_row_fields row) rest
item_row_stands row whole rest s = record { in_range = s.in_range; split = s.split }

pub item_row_apart : AreApart is_item_row item_row_bytes
item_row_apart v w whole x y s t =
    let same = pair_apart is_identity identity_bytes (pair_is is_name (pair_is is_stage (pair_is is_row (pair_is is_row is_name_or_none))))
    (pair_bytes name_bytes (pair_bytes stage_bytes (pair_bytes row_bytes (pair_bytes row_bytes name_or_none_bytes)))) identity_apart
    (pair_apart is_name name_bytes (pair_is is_stage (pair_is is_row (pair_is is_row is_name_or_none)))
    (pair_bytes stage_bytes (pair_bytes row_bytes (pair_bytes row_bytes name_or_none_bytes))) name_apart
    (pair_apart is_stage stage_bytes (pair_is is_row (pair_is is_row is_name_or_none))
    (pair_bytes row_bytes (pair_bytes row_bytes name_or_none_bytes)) stage_apart
    (pair_apart is_row row_bytes (pair_is is_row is_name_or_none) (pair_bytes row_bytes name_or_none_bytes)
    (list_apart is_value value_bytes value_apart) (pair_apart is_row row_bytes is_name_or_none name_or_none_bytes
    (list_apart is_value value_bytes value_apart) name_or_none_apart)))) (item_row_fields v) (item_row_fields w) whole x y
    (item_row_stands v whole x s) (item_row_stands w whole y t) in
    (ap item_row_of same.0, same.1)

pub no_item_row : (whole : List ℕ) → NoneStands (pair_is is_identity
    (pair_is is_name (pair_is is_stage (pair_is is_row (pair_is is_row is_name_or_none)))))
    (pair_bytes identity_bytes (pair_bytes name_bytes
    (pair_bytes stage_bytes (pair_bytes row_bytes (pair_bytes row_bytes name_or_none_bytes))))) whole → NoneStands is_item_row item_row_bytes whole
no_item_row whole none row rest s = none (item_row_fields row) rest (item_row_stands row whole rest s)

-- ---- run rows

abbrev run_row_fields : RunRow → (List ℕ) × (Bool × (List Primitive))
run_row_fields row = (row.ident, (row.waiting, row.rest))

abbrev run_row_of : ((List ℕ) × (Bool × (List Primitive))) → RunRow
run_row_of f = record { ident = f.0; waiting = f.1.0; rest = f.1.1 }

run_row_stands : (row : RunRow) (whole rest : List ℕ) → Stands is_run_row run_row_bytes whole row rest
    → Stands (pair_is is_identity (pair_is is_flag (is_list is_primitive)))
    (pair_bytes identity_bytes (pair_bytes flag_bytes (list_bytes primitive_bytes))) whole (run_row_fields row) rest
run_row_stands row whole rest s = record { in_range = s.in_range; split = s.split }

pub run_row_apart : AreApart is_run_row run_row_bytes
run_row_apart v w whole x y s t =
    let same = pair_apart is_identity identity_bytes (pair_is is_flag (is_list is_primitive))
    (pair_bytes flag_bytes (list_bytes primitive_bytes)) identity_apart
    (pair_apart is_flag flag_bytes (is_list is_primitive) (list_bytes primitive_bytes) flag_apart
    (list_apart is_primitive primitive_bytes primitive_apart)) (run_row_fields v) (run_row_fields w) whole x y (run_row_stands v whole x s)
    (run_row_stands w whole y t) in
    (ap run_row_of same.0, same.1)

pub no_run_row : (whole : List ℕ) → NoneStands (pair_is is_identity (pair_is is_flag (is_list is_primitive))) (pair_bytes identity_bytes
    (pair_bytes flag_bytes (list_bytes primitive_bytes))) whole → NoneStands is_run_row run_row_bytes whole
no_run_row whole none row rest s = none (run_row_fields row) rest (run_row_stands row whole rest s)

-- ---- due rows

abbrev due_row_fields : DueRow → (List ℕ) × Checks
due_row_fields row = (row.ident, row.due)

abbrev due_row_of : ((List ℕ) × Checks) → DueRow
due_row_of f = record { ident = f.0; due = f.1 }

due_row_stands : (row : DueRow) (whole rest : List ℕ) → Stands is_due_row due_row_bytes whole row rest
    → Stands (pair_is is_identity is_checks) (pair_bytes identity_bytes checks_bytes) whole (due_row_fields row) rest
due_row_stands row whole rest s = record { in_range = s.in_range; split = s.split }

pub due_row_apart : AreApart is_due_row due_row_bytes
due_row_apart v w whole x y s t =
    let same = pair_apart is_identity identity_bytes is_checks checks_bytes identity_apart checks_apart (due_row_fields v)
    (due_row_fields w) whole x y (due_row_stands v whole x s) (due_row_stands w whole y t) in
    (ap due_row_of same.0, same.1)

pub no_due_row : (whole : List ℕ) → NoneStands (pair_is is_identity is_checks) (pair_bytes identity_bytes checks_bytes) whole
    → NoneStands is_due_row due_row_bytes whole
no_due_row whole none row rest s = none (due_row_fields row) rest (due_row_stands row whole rest s)

-- ---- ended rows

abbrev ended_row_fields : EndedRow → ℕ × Way
ended_row_fields row = (row.case, row.way)

abbrev ended_row_of : (ℕ × Way) → EndedRow
ended_row_of f = record { case = f.0; way = f.1 }

ended_row_stands : (row : EndedRow) (whole rest : List ℕ) → Stands is_ended_row ended_row_bytes whole row rest
    → Stands (pair_is is_u64 is_way) (pair_bytes u64_bytes way_bytes) whole (ended_row_fields row) rest
ended_row_stands row whole rest s = record { in_range = s.in_range; split = s.split }

pub ended_row_apart : AreApart is_ended_row ended_row_bytes
ended_row_apart v w whole x y s t =
    let same = pair_apart is_u64 u64_bytes is_way way_bytes u64_apart way_apart (ended_row_fields v) (ended_row_fields w) whole x y
    (ended_row_stands v whole x s) (ended_row_stands w whole y t) in
    (ap ended_row_of same.0, same.1)

pub no_ended_row : (whole : List ℕ) → NoneStands (pair_is is_u64 is_way) (pair_bytes u64_bytes way_bytes) whole
    → NoneStands is_ended_row ended_row_bytes whole
no_ended_row whole none row rest s = none (ended_row_fields row) rest (ended_row_stands row whole rest s)

-- ---- all of them, section by section

abbrev FromDue : Type 0
FromDue = (List DueRow) × (List EndedRow)

abbrev is_from_due : FromDue → Bool
is_from_due = pair_is (is_ascending is_due_row due_row_before) (is_ascending is_ended_row ended_before)

abbrev from_due_bytes : FromDue → List ℕ
from_due_bytes = pair_bytes (list_bytes due_row_bytes) (list_bytes ended_row_bytes)

from_due_apart : AreApart is_from_due from_due_bytes
from_due_apart = pair_apart (is_ascending is_due_row due_row_before) (list_bytes due_row_bytes) (is_ascending is_ended_row ended_before)
    (list_bytes ended_row_bytes) (ascending_apart is_due_row due_row_bytes due_row_before due_row_apart)
    (ascending_apart is_ended_row ended_row_bytes ended_before ended_row_apart)

abbrev FromSuspended : Type 0
FromSuspended = (List (List ℕ)) × FromDue

abbrev is_from_suspended : FromSuspended → Bool
is_from_suspended = pair_is (is_ascending is_identity ident_before) is_from_due

abbrev from_suspended_bytes : FromSuspended → List ℕ
from_suspended_bytes = pair_bytes (list_bytes identity_bytes) from_due_bytes

from_suspended_apart : AreApart is_from_suspended from_suspended_bytes
from_suspended_apart = pair_apart (is_ascending is_identity ident_before) (list_bytes identity_bytes) is_from_due from_due_bytes
    (ascending_apart is_identity identity_bytes ident_before identity_apart) from_due_apart

abbrev FromRuns : Type 0
FromRuns = (List RunRow) × FromSuspended

abbrev is_from_runs : FromRuns → Bool
is_from_runs = pair_is (is_ascending is_run_row run_row_before) is_from_suspended

abbrev from_runs_bytes : FromRuns → List ℕ
from_runs_bytes = pair_bytes (list_bytes run_row_bytes) from_suspended_bytes

from_runs_apart : AreApart is_from_runs from_runs_bytes
from_runs_apart = pair_apart (is_ascending is_run_row run_row_before) (list_bytes run_row_bytes) is_from_suspended from_suspended_bytes
    (ascending_apart is_run_row run_row_bytes run_row_before run_row_apart) from_suspended_apart

abbrev FromItems : Type 0
FromItems = (List ItemRow) × FromRuns

abbrev is_from_items : FromItems → Bool
is_from_items = pair_is (is_ascending is_item_row item_row_before) is_from_runs

abbrev from_items_bytes : FromItems → List ℕ
from_items_bytes = pair_bytes (list_bytes item_row_bytes) from_runs_bytes

from_items_apart : AreApart is_from_items from_items_bytes
from_items_apart = pair_apart (is_ascending is_item_row item_row_before) (list_bytes item_row_bytes) is_from_runs from_runs_bytes
    (ascending_apart is_item_row item_row_bytes item_row_before item_row_apart) from_runs_apart

abbrev FromTokens : Type 0
FromTokens = (List TokenRow) × FromItems

abbrev is_from_tokens : FromTokens → Bool
is_from_tokens = pair_is (is_list is_token_row) is_from_items

abbrev from_tokens_bytes : FromTokens → List ℕ
from_tokens_bytes = pair_bytes (list_bytes token_row_bytes) from_items_bytes

from_tokens_apart : AreApart is_from_tokens from_tokens_bytes
from_tokens_apart = pair_apart (is_list is_token_row) (list_bytes token_row_bytes) is_from_items from_items_bytes
    (list_apart is_token_row token_row_bytes token_row_apart) from_items_apart

abbrev FromNets : Type 0
FromNets = (List NetRow) × FromTokens

abbrev is_from_nets : FromNets → Bool
is_from_nets = pair_is (is_ascending is_net_row net_row_before) is_from_tokens

abbrev from_nets_bytes : FromNets → List ℕ
from_nets_bytes = pair_bytes (list_bytes net_row_bytes) from_tokens_bytes

from_nets_apart : AreApart is_from_nets from_nets_bytes
from_nets_apart = pair_apart (is_ascending is_net_row net_row_before) (list_bytes net_row_bytes) is_from_tokens from_tokens_bytes
    (ascending_apart is_net_row net_row_bytes net_row_before net_row_apart) from_tokens_apart

abbrev FromTrees : Type 0
FromTrees = (List TreeRow) × FromNets

abbrev is_from_trees : FromTrees → Bool
is_from_trees = pair_is (is_ascending is_tree_row tree_before) is_from_nets

abbrev from_trees_bytes : FromTrees → List ℕ
from_trees_bytes = pair_bytes (list_bytes tree_row_bytes) from_nets_bytes

from_trees_apart : AreApart is_from_trees from_trees_bytes
from_trees_apart = pair_apart (is_ascending is_tree_row tree_before) (list_bytes tree_row_bytes) is_from_nets from_nets_bytes
    (ascending_apart is_tree_row tree_row_bytes tree_before tree_row_apart) from_nets_apart

abbrev FromTexts : Type 0
FromTexts = (List (List ℕ)) × FromTrees

abbrev is_from_texts : FromTexts → Bool
is_from_texts = pair_is (is_list is_text) is_from_trees

abbrev from_texts_bytes : FromTexts → List ℕ
from_texts_bytes = pair_bytes (list_bytes text_bytes) from_trees_bytes

from_texts_apart : AreApart is_from_texts from_texts_bytes
from_texts_apart = pair_apart (is_list is_text) (list_bytes text_bytes) is_from_trees from_trees_bytes
    (list_apart is_text text_bytes text_apart) from_trees_apart

abbrev FromPersons : Type 0
FromPersons = (List PersonRow) × FromTexts

abbrev is_from_persons : FromPersons → Bool
is_from_persons = pair_is (is_ascending is_person_row person_before) is_from_texts

abbrev from_persons_bytes : FromPersons → List ℕ
from_persons_bytes = pair_bytes (list_bytes person_row_bytes) from_texts_bytes

from_persons_apart : AreApart is_from_persons from_persons_bytes
from_persons_apart = pair_apart (is_ascending is_person_row person_before) (list_bytes person_row_bytes) is_from_texts from_texts_bytes
    (ascending_apart is_person_row person_row_bytes person_before person_row_apart) from_texts_apart

abbrev FromNext : Type 0
FromNext = ℕ × FromPersons

abbrev is_from_next : FromNext → Bool
is_from_next = pair_is is_u64 is_from_persons

abbrev from_next_bytes : FromNext → List ℕ
from_next_bytes = pair_bytes u64_bytes from_persons_bytes

from_next_apart : AreApart is_from_next from_next_bytes
from_next_apart = pair_apart is_u64 u64_bytes is_from_persons from_persons_bytes u64_apart from_persons_apart

abbrev rows_fields : Rows → FromNext
rows_fields rows = (
  rows.next,
  (rows.persons, (rows.texts, (rows.trees, (rows.nets, (rows.tokens, (rows.items, (rows.runs, (rows.suspended, (rows.due, rows.ended))))))))),
)

abbrev rows_of_fields : FromNext → Rows
rows_of_fields f = record {
  next = f.0;
  persons = f.1.0;
  texts = f.1.1.0;
  trees = f.1.1.1.0;
  nets = f.1.1.1.1.0;
  tokens = f.1.1.1.1.1.0;
  items = f.1.1.1.1.1.1.0;
  runs = f.1.1.1.1.1.1.1.0;
  suspended = f.1.1.1.1.1.1.1.1.0;
  due = f.1.1.1.1.1.1.1.1.1.0;
  ended = f.1.1.1.1.1.1.1.1.1.1;
}

rows_stand : (rows : Rows) (whole rest : List ℕ) → Stands is_rows rows_bytes whole rows rest
    → Stands is_from_next from_next_bytes whole (rows_fields rows) rest
rows_stand rows whole rest s = record { in_range = s.in_range; split = s.split }

pub rows_apart : AreApart is_rows rows_bytes
rows_apart v w whole x y s t =
    let same = from_next_apart (rows_fields v) (rows_fields w) whole x y (rows_stand v whole x s) (rows_stand w whole y t) in
    (ap rows_of_fields same.0, same.1)

pub no_rows : (whole : List ℕ) → NoneStands is_from_next from_next_bytes whole → NoneStands is_rows rows_bytes whole
no_rows whole none rows rest s = none (rows_fields rows) rest (rows_stand rows whole rest s)
