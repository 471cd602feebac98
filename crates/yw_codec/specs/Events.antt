-- The events of an entry: for each kind its tag and its fields, and which numbers and texts they may have.
use Rattle.std.specs.Prelude.{◌&&◌, ℕ, List, ◌∷◌, ◌++◌, Bool}
use Rattle.yw_base.specs.Identity.{is_identity}
use Rattle.yw_base.specs.Spelling.{is_name}
use Rattle.yw_codec.specs.Fields.{u32_bytes, u64_bytes, is_u32, is_u64, is_flag, flag_bytes, name_bytes, text_bytes, is_text, identity_bytes, is_list, list_bytes, is_short_list, short_list_bytes, is_value, value_bytes, is_row, row_bytes, is_place, place_bytes, is_kind, kind_bytes, is_tree, tree_bytes, is_primitive, primitive_bytes, is_conclusion, conclusion_bytes}
use Rattle.yw_state.specs.declared.event.Event.{Event}
use Rattle.yw_state.specs.declared.event.Event.TheVariants as events

-- a tag and the fields
abbrev pub event_bytes : Event → List ℕ
event_bytes (events.Person name roles) = 1 ∷ (name_bytes name ++ short_list_bytes name_bytes roles)
event_bytes (events.Load name text) = 2 ∷ (name_bytes name ++ text_bytes text)
event_bytes (events.AddRule place at side when conclusion number) = 3 ∷ (tree_bytes place ++ (u32_bytes at ++ (flag_bytes side ++ (text_bytes when ++ (conclusion_bytes conclusion ++ u32_bytes number)))))
event_bytes (events.Launch n spec row) = 4 ∷ (u64_bytes n ++ (name_bytes spec ++ row_bytes row))
event_bytes (events.Enter i t places first count) = 5 ∷ (identity_bytes i ++ (name_bytes t ++ (list_bytes place_bytes places ++ (u64_bytes first ++ u32_bytes count))))
event_bytes (events.Start j who) = 6 ∷ (identity_bytes j ++ name_bytes who)
event_bytes (events.Complete j out) = 7 ∷ (identity_bytes j ++ row_bytes out)
event_bytes (events.Exit i t places) = 8 ∷ (identity_bytes i ++ (name_bytes t ++ list_bytes place_bytes places))
event_bytes (events.Add i t v n) = 9 ∷ (identity_bytes i ++ (name_bytes t ++ (value_bytes v ++ u64_bytes n)))
event_bytes (events.Finish n) = 10 ∷ u64_bytes n
event_bytes (events.Cancel n) = 11 ∷ u64_bytes n
event_bytes (events.StartSub j) = 12 ∷ identity_bytes j
event_bytes (events.CompleteSub j) = 13 ∷ identity_bytes j
event_bytes (events.CompleteEmpty j) = 14 ∷ identity_bytes j
event_bytes (events.Pass j check) = 15 ∷ (identity_bytes j ++ kind_bytes check)
event_bytes (events.Except j check node n) = 16 ∷ (identity_bytes j ++ (kind_bytes check ++ (u32_bytes node ++ u64_bytes n)))
event_bytes (events.Substitute j worklet) = 17 ∷ (identity_bytes j ++ name_bytes worklet)
event_bytes (events.CompleteWorklet j) = 18 ∷ identity_bytes j
event_bytes (events.Raise j kind node n) = 19 ∷ (identity_bytes j ++ (kind_bytes kind ++ (u32_bytes node ++ u64_bytes n)))
event_bytes (events.Prim r primitive) = 20 ∷ (identity_bytes r ++ primitive_bytes primitive)
event_bytes (events.Compensated r) = 21 ∷ identity_bytes r
event_bytes (events.Suspend j) = 22 ∷ identity_bytes j
event_bytes (events.Continue j) = 23 ∷ identity_bytes j
event_bytes (events.Advance n) = 24 ∷ u64_bytes n

-- each field is in its range
abbrev pub is_event : Event → Bool
is_event (events.Person name roles) = is_name name && is_short_list is_name roles
is_event (events.Load name text) = is_name name && is_text text
is_event (events.AddRule place at side when conclusion number) = is_tree place && (is_u32 at && (is_flag side && (is_text when && (is_conclusion conclusion && is_u32 number))))
is_event (events.Launch n spec row) = is_u64 n && (is_name spec && is_row row)
is_event (events.Enter i t places first count) = is_identity i && (is_name t && (is_list is_place places && (is_u64 first && is_u32 count)))
is_event (events.Start j who) = is_identity j && is_name who
is_event (events.Complete j out) = is_identity j && is_row out
is_event (events.Exit i t places) = is_identity i && (is_name t && is_list is_place places)
is_event (events.Add i t v n) = is_identity i && (is_name t && (is_value v && is_u64 n))
is_event (events.Finish n) = is_u64 n
is_event (events.Cancel n) = is_u64 n
is_event (events.StartSub j) = is_identity j
is_event (events.CompleteSub j) = is_identity j
is_event (events.CompleteEmpty j) = is_identity j
is_event (events.Pass j check) = is_identity j && is_kind check
is_event (events.Except j check node n) = is_identity j && (is_kind check && (is_u32 node && is_u64 n))
is_event (events.Substitute j worklet) = is_identity j && is_name worklet
is_event (events.CompleteWorklet j) = is_identity j
is_event (events.Raise j kind node n) = is_identity j && (is_kind kind && (is_u32 node && is_u64 n))
is_event (events.Prim r primitive) = is_identity r && is_primitive primitive
is_event (events.Compensated r) = is_identity r
is_event (events.Suspend j) = is_identity j
is_event (events.Continue j) = is_identity j
is_event (events.Advance n) = is_u64 n
