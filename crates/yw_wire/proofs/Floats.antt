-- Nothing that is said has a float.
use Rattle.std.proofs.Common.{◌≡◌, ℕ, ℤ, pos, negsuc, List, [], ◌∷◌, map, false, refl}
use Rattle.std.proofs.lemmas.Bool.{or_from, or_parts}
use Rattle.std.specs.Cmp.Lexicographic.{slice_cmp}
use Rattle.std.specs.Ordering.{match_ordering, nat_cmp}
use Rattle.std.specs.Prelude.{fold}
use Rattle.std.specs.declared.cmp.Ordering.TheVariants.{Less, Equal, Greater}
use Rattle.serde_json.specs.Data.{Data, Members, member, no_members, put}
use Rattle.serde_json.specs.View.{items_of}
use Rattle.serde_json.specs.Written.{has_float, items_have_float, members_have_float}
use Rattle.yw_base.specs.declared.value.Value.{Value}
use Rattle.yw_base.specs.declared.value.Value.TheVariants as values
use Rattle.yw_lines.specs.Answers.{answer_data, int_data, list_data, members_data, net_data, rows_data, run_data, shown_data, value_data, work_data}
use Rattle.yw_state.specs.declared.answer.NamedValue.{NamedValue}
use Rattle.yw_state.specs.declared.answer.NetRow.{NetRow}
use Rattle.yw_state.specs.declared.answer.RunRow.{RunRow}
use Rattle.yw_state.specs.declared.answer.Shown.{Shown}
use Rattle.yw_state.specs.declared.answer.WorkRow.{WorkRow}

abbrev pub IsWhole : Data → Type 0
IsWhole d = has_float d ≡ false

pub list_is_whole : {A : Type 0} (f : A → Data) → ((x : A) → IsWhole (f x)) → (xs : List A) → IsWhole (list_data f xs)
list_is_whole f each [] = refl
list_is_whole f each (x ∷ xs) = or_from (has_float (f x)) (items_have_float (items_of (map f xs))) (each x) (list_is_whole f each xs)

int_is_whole : (z : ℤ) → IsWhole (int_data z)
int_is_whole (pos n) = refl
int_is_whole (negsuc n) = refl

value_is_whole : (v : Value) → IsWhole (value_data v)
value_is_whole (values.Bool b) = refl
value_is_whole (values.Int z) = int_is_whole z
value_is_whole (values.Text text) = refl
value_is_whole (values.Ints zs) = list_is_whole int_data int_is_whole zs
value_is_whole (values.Texts texts) = list_is_whole _ (λ _. refl) texts

put_is_whole : (k : List ℕ) (d : Data) (ms : Members) → IsWhole d → members_have_float ms ≡ false → members_have_float (put k d ms) ≡ false
put_is_whole k d no_members one all = or_from (has_float d) false one refl
put_is_whole k d (member l e ms) one all =
    let parts = or_parts (has_float e) (members_have_float ms) all in
    elim (slice_cmp nat_cmp k l) as (λ o. members_have_float (match_ordering o (member k d (member l e ms)) (member l d ms) (member l e (put k d ms))) ≡ false) [
      | Less ↦ or_from (has_float d) (members_have_float (member l e ms)) one all
      | Equal ↦ or_from (has_float d) (members_have_float ms) one parts.1
      | Greater ↦ or_from (has_float e) (members_have_float (put k d ms)) parts.0 (put_is_whole k d ms one parts.1)
    ]

puts_are_whole : (ms : Members) (vs : List NamedValue) → members_have_float ms ≡ false
    → members_have_float (fold (λ (ns : Members) (v : NamedValue). put v.name (value_data v.value) ns) ms vs) ≡ false
puts_are_whole ms [] all = all
puts_are_whole ms (v ∷ vs) all = puts_are_whole (put v.name (value_data v.value) ms) vs (put_is_whole v.name (value_data v.value) ms (value_is_whole v.value) all)

members_are_whole : (vs : List NamedValue) → members_have_float (members_data vs) ≡ false
members_are_whole vs = puts_are_whole no_members vs refl

net_is_whole : (row : NetRow) → IsWhole (net_data row)
net_is_whole row = or_from (members_have_float (members_data row.values)) false (members_are_whole row.values) refl

run_is_whole : (row : RunRow) → IsWhole (run_data row)
run_is_whole row = or_from (has_float (list_data _ row.rest)) false (list_is_whole _ (λ _. refl) row.rest) refl

pub rows_are_whole : (rows : List WorkRow) → IsWhole (rows_data rows)
rows_are_whole rows = list_is_whole work_data (λ _. refl) rows

pub shown_is_whole : (x : Shown) → IsWhole (shown_data x)
shown_is_whole x =
    or_from _ _ (list_is_whole _ (λ _. refl) x.due)
    (or_from _ _ (list_is_whole _ (λ _. refl) x.items)
    (or_from _ _ (list_is_whole net_data net_is_whole x.nets)
    (or_from _ _ (list_is_whole run_data run_is_whole x.runs)
    (or_from _ _ (list_is_whole _ (λ _. refl) x.suspended)
    (or_from _ _ (list_is_whole _ (λ _. refl) x.tokens) refl)))))

pub answer_is_whole : (n : ℕ) (d : Data) → IsWhole d → IsWhole (answer_data n d)
answer_is_whole n d whole = or_from (has_float d) false whole refl
