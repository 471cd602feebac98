-- The lines that answer queries: compact JSON, keys in byte order, and a newline. Our own.
use Rattle.std.specs.Prelude.{ℕ, ℤ, pos, negsuc, List, [], ◌∷◌, map, fold, Option, Some, None, true, codes}
use Rattle.serde_json.specs.Data.{Num, unsigned, negative, Data, boolean, number, string, array, object, Members, no_members, member, put}
use Rattle.serde_json.specs.View.{items_of}
use Rattle.yw_base.specs.Identity.{dotted}
use Rattle.yw_base.specs.declared.value.Value.{Value}
use Rattle.yw_base.specs.declared.value.Value.TheVariants as values
use Rattle.yw_lines.specs.Kinds.{kind_text}
use Rattle.yw_lines.specs.Primitives.{primitive_text}
use Rattle.yw_lines.specs.Replies.{line_of}
use Rattle.yw_spec.specs.Net.{place_text}
use Rattle.yw_spec.specs.declared.spec.Place.{Place}
use Rattle.yw_state.specs.declared.answer.DueRow.{DueRow}
use Rattle.yw_state.specs.declared.answer.ItemRow.{ItemRow}
use Rattle.yw_state.specs.declared.answer.NamedValue.{NamedValue}
use Rattle.yw_state.specs.declared.answer.NetRow.{NetRow}
use Rattle.yw_state.specs.declared.answer.RunRow.{RunRow}
use Rattle.yw_state.specs.declared.answer.Shown.{Shown}
use Rattle.yw_state.specs.declared.answer.TokenRow.{TokenRow}
use Rattle.yw_state.specs.declared.answer.What.{What}
use Rattle.yw_state.specs.declared.answer.What.TheVariants as whats
use Rattle.yw_state.specs.declared.answer.WorkRow.{WorkRow}
use Rattle.yw_state.specs.declared.part.Stage.{Stage}
use Rattle.yw_state.specs.declared.part.Stage.TheVariants as stages
use Rattle.yw_state.specs.declared.tree.Primitive.{Primitive}

-- a query's answer
abbrev pub answer_data : ℕ → Data → Data
answer_data n answer =
    object (member (codes "answer") answer
    (member (codes "n") (number (unsigned n))
    (member (codes "ok") (boolean true) no_members)))

unfoldable pub answer_line : ℕ → Data → List ℕ
answer_line n answer = line_of (answer_data n answer)

-- ---- parts of answers

abbrev pub list_data : {A : Type 0} → (A → Data) → List A → Data
list_data f xs = array (items_of (map f xs))

-- texts one after another
abbrev pub names_data : List (List ℕ) → Data
names_data names = list_data (λ name. string name) names

abbrev pub ident_data : List ℕ → Data
ident_data j = string (dotted j)

abbrev pub place_data : Place → Data
place_data place = string (place_text place)

abbrev pub primitive_data : Primitive → Data
primitive_data p = string (primitive_text p)

abbrev pub int_num : ℤ → Num
int_num (pos n) = unsigned n
int_num (negsuc n) = negative (negsuc n)

abbrev pub int_data : ℤ → Data
int_data z = number (int_num z)

abbrev pub value_data : Value → Data
value_data (values.Bool b) = boolean b
value_data (values.Int z) = int_data z
value_data (values.Text text) = string text
value_data (values.Ints zs) = list_data int_data zs
value_data (values.Texts texts) = names_data texts

-- ---- work

abbrev pub what_text : What → List ℕ
what_text whats.Enter = codes "enter"
what_text whats.Start = codes "start"
what_text whats.Complete = codes "complete"

-- under which key the identity stands: a net's or an item's
abbrev pub at_key : What → List ℕ
at_key whats.Enter = codes "case"
at_key whats.Start = codes "item"
at_key whats.Complete = codes "item"

abbrev pub work_data : WorkRow → Data
work_data row =
    object (member (at_key row.what) (ident_data row.at)
    (member (codes "task") (string row.task)
    (member (codes "what") (string (what_text row.what)) no_members)))

abbrev pub rows_data : List WorkRow → Data
rows_data rows = list_data work_data rows

-- ---- what stands in a case: each row is a list

abbrev pub row_data : List Data → Data
row_data parts = array (items_of parts)

abbrev pub stage_text : Stage → List ℕ
stage_text stages.Ready = codes "ready"
stage_text stages.Executing = codes "executing"
stage_text stages.Completed = codes "completed"

-- the person who started an item, and the empty text where there is none
abbrev pub who_text : Option (List ℕ) → List ℕ
who_text None = []
who_text (Some who) = who

-- each value under its name, in order of names
abbrev pub members_data : List NamedValue → Members
members_data vs = fold (λ (ms : Members) (v : NamedValue). put v.name (value_data v.value) ms) no_members vs

abbrev pub due_data : DueRow → Data
due_data row = row_data (ident_data row.at ∷ string (kind_text row.check) ∷ [])

abbrev pub item_data : ItemRow → Data
item_data row = row_data (ident_data row.item ∷ string row.task ∷ string (stage_text row.stage) ∷ string (who_text row.who) ∷ [])

abbrev pub net_data : NetRow → Data
net_data row = row_data (ident_data row.net ∷ string row.spec ∷ string row.name ∷ object (members_data row.values) ∷ [])

abbrev pub run_data : RunRow → Data
run_data row = row_data (ident_data row.run ∷ boolean row.waiting ∷ list_data primitive_data row.rest ∷ [])

abbrev pub token_data : TokenRow → Data
token_data row = row_data (ident_data row.net ∷ place_data row.place ∷ number (unsigned row.count) ∷ [])

abbrev pub shown_data : Shown → Data
shown_data x =
    object (member (codes "due") (list_data due_data x.due)
    (member (codes "items") (list_data item_data x.items)
    (member (codes "nets") (list_data net_data x.nets)
    (member (codes "runs") (list_data run_data x.runs)
    (member (codes "suspended") (list_data ident_data x.suspended)
    (member (codes "tokens") (list_data token_data x.tokens) no_members))))))
