-- The kinds of fields that lines have: what a JSON value says, if it is of the kind. Our own.
use Rattle.std.specs.Prelude.{ℕ, ◌==◌, List, length, map, Bool, true, false, nat_le, if◌then◌else◌, Option, Some, None, option_and_then, option_map, codes}
use Rattle.std.specs.Option.{option_map_or}
use Rattle.std.specs.Str.{bytes_eq}
use Rattle.serde_json.specs.Data.{Data}
use Rattle.serde_json.specs.Events.{members_len}
use Rattle.serde_json.specs.Find.{get, as_number, as_u64, as_str, as_array, as_object}
use Rattle.yw_base.specs.Spelling.{is_name}
use Rattle.yw_base.specs.declared.value.Value.{Value}
use Rattle.yw_state.specs.declared.command.Given.{Given}
use Rattle.yw_state.specs.declared.tree.Conclusion.{Conclusion}
use Rattle.yw_state.specs.declared.tree.Conclusion.TheVariants as conclusions
use Rattle.yw_state.specs.Allowed.{are_roles}
use Rattle.yw_lines.specs.Identities.{identity_in}
use Rattle.yw_lines.specs.Lines.{line_limit}
use Rattle.yw_lines.specs.Primitives.{primitive_in}
use Rattle.yw_lines.specs.Values.{each_of, either_of, givens_in, value_in}

abbrev pub only_if : {A : Type 0} → (A → Bool) → A → Option A
only_if p x = if p x then Some x else None

-- an object with so many members
abbrev pub has_members : ℕ → Data → Bool
has_members n d = option_map_or (λ ms. members_len ms == n) (as_object d) false

-- what stands at a key, if it is of the kind
abbrev pub field : {A : Type 0} → (Data → Option A) → List ℕ → Data → Option A
field kind key d = option_and_then kind (get key d)

-- ---- names, and what is written as one text

-- a text that is written as a name is
abbrev pub name_of : Data → Option (List ℕ)
name_of d = option_and_then (only_if is_name) (as_str d)

-- a name, or the empty text for none
abbrev pub may_be_name : List ℕ → Option (Option (List ℕ))
may_be_name text = if length text == 0 then Some None else option_map Some (only_if is_name text)

abbrev pub optional_name_of : Data → Option (Option (List ℕ))
optional_name_of d = option_and_then may_be_name (as_str d)

-- a text that is no longer than a line is
abbrev pub line_text_of : Data → Option (List ℕ)
line_text_of d = option_and_then (only_if (λ text. nat_le (length text) line_limit)) (as_str d)

-- a text that is written as an identity is
abbrev pub identity_of : Data → Option (List ℕ)
identity_of d = option_and_then identity_in (as_str d)

-- a text that is one of the words
abbrev pub one_of : {A : Type 0} → (List ℕ → Option A) → Data → Option A
one_of words d = option_and_then words (as_str d)

-- the side of a node
abbrev pub side_words : List ℕ → Option Bool
side_words word =
    if bytes_eq word (codes "true") then Some true else
    if bytes_eq word (codes "false") then Some false else None

-- ---- numbers

-- the greatest number of a tree's node
abbrev pub most_node : ℕ
most_node = 65535

abbrev pub node_of : Data → Option ℕ
node_of d = option_and_then (only_if (λ n. nat_le n most_node)) (option_and_then as_u64 (as_number d))

-- ---- lists and objects

-- a list whose items are all of a kind
abbrev pub list_of : {A : Type 0} → (Data → Option A) → Data → Option (List A)
list_of kind d = option_and_then (each_of kind) (as_array d)

abbrev pub roles_of : Data → Option (List (List ℕ))
roles_of d = option_and_then (only_if are_roles) (list_of name_of d)

-- the values that an object gives, each under its name
abbrev pub givens_of : Data → Option (List Given)
givens_of d = option_map givens_in (as_object d)

-- any value, which may have no sort
abbrev pub any_value_of : Data → Option (Option Value)
any_value_of d = Some (value_in d)

abbrev pub worklet_of : Data → Option Conclusion
worklet_of d = option_map conclusions.Worklet (field name_of (codes "worklet") d)

abbrev pub exlet_of : Data → Option Conclusion
exlet_of d = option_map (λ texts. conclusions.Exlet (map primitive_in texts)) (field (list_of as_str) (codes "exlet") d)

-- an object with `worklet` and a name alone, or with `exlet` and a list of texts alone
unfoldable pub conclusion_of : Data → Option Conclusion
conclusion_of d = if has_members 1 d then either_of (worklet_of d) (exlet_of d) else None
