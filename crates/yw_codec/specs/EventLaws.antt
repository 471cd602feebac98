-- The bytes of events tell where they end. By its tag an event is of one kind, and its fields stand behind the tag.
use Rattle.std.proofs.Common.{◌≡◌, ◌&&◌, ◌==◌, ◌||◌, ℕ, List, [], ◌∷◌, ◌++◌, length, Bool, true, false, refl, sym, ap, ◌∙◌, arith, drop, get_or, slice_index, nat_le}
use Rattle.yw_base.specs.Identity.{is_identity}
use Rattle.yw_base.specs.Spelling.{is_name}
use Rattle.yw_base.specs.declared.value.Value.{Value}
use Rattle.yw_built.specs.Built.{is_built}
use Rattle.yw_codec.specs.Events.{event_bytes, is_event}
use Rattle.yw_codec.specs.FieldLaws.{u32_apart, u64_apart, flag_apart, name_apart, text_apart, pair_apart}
use Rattle.yw_codec.specs.Fields.{u32_bytes, u64_bytes, is_u32, is_u64, is_flag, flag_bytes, name_bytes, text_bytes, is_text, identity_bytes, is_list, list_bytes, is_short_list, short_list_bytes, is_value, value_bytes, is_row, row_bytes, is_place, place_bytes, is_kind, kind_bytes, is_tree, tree_bytes, is_primitive, primitive_bytes, is_conclusion, conclusion_bytes}
use Rattle.yw_codec.specs.Forms.{Stands, NoneStands, AreApart, pair_is, pair_bytes}
use Rattle.yw_codec.specs.ListLaws.{list_apart, short_list_apart, identity_apart}
use Rattle.yw_codec.specs.PlaceLaws.{place_apart}
use Rattle.yw_codec.specs.TreeLaws.{kind_apart, tree_apart, primitive_apart, conclusion_apart}
use Rattle.yw_codec.specs.ValueLaws.{value_apart}
use Rattle.yw_spec.specs.declared.spec.Place.{Place}
use Rattle.yw_state.specs.declared.event.Event.{Event}
use Rattle.yw_state.specs.declared.event.Event.TheVariants as events
use Rattle.yw_state.specs.declared.tree.Conclusion.{Conclusion}
use Rattle.yw_state.specs.declared.tree.Primitive.{Primitive}
use Rattle.yw_state.specs.declared.tree.TreeKind.{TreeKind}
use Rattle.yw_state.specs.declared.tree.TreePlace.{TreePlace}

person_of : (mid : List ℕ) (e : Event) (rest : List ℕ) → Stands is_event event_bytes (1 ∷ mid) e rest → (p : ((List ℕ) × (List (List ℕ)))) × (e ≡ events.Person p.0 p.1) × Stands (pair_is is_name (is_short_list is_name)) (pair_bytes name_bytes (short_list_bytes name_bytes)) mid p rest
person_of mid (events.Person name roles) rest s = ((name, roles), refl, record { in_range = s.in_range; split = ap (drop 1) s.split })
person_of mid e rest s = absurd (omega (arith, ap (λ (l : List ℕ). get_or l 0 0) s.split))

pub no_person : (mid : List ℕ) → NoneStands (pair_is is_name (is_short_list is_name)) (pair_bytes name_bytes (short_list_bytes name_bytes)) mid → NoneStands is_event event_bytes (1 ∷ mid)
no_person mid none e rest s = let p = person_of mid e rest s in none p.0 rest p.2

load_of : (mid : List ℕ) (e : Event) (rest : List ℕ) → Stands is_event event_bytes (2 ∷ mid) e rest → (p : ((List ℕ) × (List ℕ))) × (e ≡ events.Load p.0 p.1) × Stands (pair_is is_name is_text) (pair_bytes name_bytes text_bytes) mid p rest
load_of mid (events.Load name text) rest s = ((name, text), refl, record { in_range = s.in_range; split = ap (drop 1) s.split })
load_of mid e rest s = absurd (omega (arith, ap (λ (l : List ℕ). get_or l 0 0) s.split))

pub no_load : (mid : List ℕ) → NoneStands (pair_is is_name is_text) (pair_bytes name_bytes text_bytes) mid → NoneStands is_event event_bytes (2 ∷ mid)
no_load mid none e rest s = let p = load_of mid e rest s in none p.0 rest p.2

rule_of : (mid : List ℕ) (e : Event) (rest : List ℕ) → Stands is_event event_bytes (3 ∷ mid) e rest → (p : (TreePlace × (ℕ × (Bool × ((List ℕ) × (Conclusion × ℕ)))))) × (e ≡ events.AddRule p.0 p.1.0 p.1.1.0 p.1.1.1.0 p.1.1.1.1.0 p.1.1.1.1.1) × Stands (pair_is is_tree (pair_is is_u32 (pair_is is_flag (pair_is is_text (pair_is is_conclusion is_u32))))) (pair_bytes tree_bytes (pair_bytes u32_bytes (pair_bytes flag_bytes (pair_bytes text_bytes (pair_bytes conclusion_bytes u32_bytes))))) mid p rest
rule_of mid (events.AddRule place at side when conclusion number) rest s = ((place, (at, (side, (when, (conclusion, number))))), refl, record { in_range = s.in_range; split = ap (drop 1) s.split })
rule_of mid e rest s = absurd (omega (arith, ap (λ (l : List ℕ). get_or l 0 0) s.split))

pub no_rule : (mid : List ℕ) → NoneStands (pair_is is_tree (pair_is is_u32 (pair_is is_flag (pair_is is_text (pair_is is_conclusion is_u32))))) (pair_bytes tree_bytes (pair_bytes u32_bytes (pair_bytes flag_bytes (pair_bytes text_bytes (pair_bytes conclusion_bytes u32_bytes))))) mid → NoneStands is_event event_bytes (3 ∷ mid)
no_rule mid none e rest s = let p = rule_of mid e rest s in none p.0 rest p.2

launch_of : (mid : List ℕ) (e : Event) (rest : List ℕ) → Stands is_event event_bytes (4 ∷ mid) e rest → (p : (ℕ × ((List ℕ) × (List Value)))) × (e ≡ events.Launch p.0 p.1.0 p.1.1) × Stands (pair_is is_u64 (pair_is is_name is_row)) (pair_bytes u64_bytes (pair_bytes name_bytes row_bytes)) mid p rest
launch_of mid (events.Launch n spec row) rest s = ((n, (spec, row)), refl, record { in_range = s.in_range; split = ap (drop 1) s.split })
launch_of mid e rest s = absurd (omega (arith, ap (λ (l : List ℕ). get_or l 0 0) s.split))

pub no_launch : (mid : List ℕ) → NoneStands (pair_is is_u64 (pair_is is_name is_row)) (pair_bytes u64_bytes (pair_bytes name_bytes row_bytes)) mid → NoneStands is_event event_bytes (4 ∷ mid)
no_launch mid none e rest s = let p = launch_of mid e rest s in none p.0 rest p.2

enter_of : (mid : List ℕ) (e : Event) (rest : List ℕ) → Stands is_event event_bytes (5 ∷ mid) e rest → (p : ((List ℕ) × ((List ℕ) × ((List Place) × (ℕ × ℕ))))) × (e ≡ events.Enter p.0 p.1.0 p.1.1.0 p.1.1.1.0 p.1.1.1.1) × Stands (pair_is is_identity (pair_is is_name (pair_is (is_list is_place) (pair_is is_u64 is_u32)))) (pair_bytes identity_bytes (pair_bytes name_bytes (pair_bytes (list_bytes place_bytes) (pair_bytes u64_bytes u32_bytes)))) mid p rest
enter_of mid (events.Enter i t places first count) rest s = ((i, (t, (places, (first, count)))), refl, record { in_range = s.in_range; split = ap (drop 1) s.split })
enter_of mid e rest s = absurd (omega (arith, ap (λ (l : List ℕ). get_or l 0 0) s.split))

pub no_enter : (mid : List ℕ) → NoneStands (pair_is is_identity (pair_is is_name (pair_is (is_list is_place) (pair_is is_u64 is_u32)))) (pair_bytes identity_bytes (pair_bytes name_bytes (pair_bytes (list_bytes place_bytes) (pair_bytes u64_bytes u32_bytes)))) mid → NoneStands is_event event_bytes (5 ∷ mid)
no_enter mid none e rest s = let p = enter_of mid e rest s in none p.0 rest p.2

start_of : (mid : List ℕ) (e : Event) (rest : List ℕ) → Stands is_event event_bytes (6 ∷ mid) e rest → (p : ((List ℕ) × (List ℕ))) × (e ≡ events.Start p.0 p.1) × Stands (pair_is is_identity is_name) (pair_bytes identity_bytes name_bytes) mid p rest
start_of mid (events.Start j who) rest s = ((j, who), refl, record { in_range = s.in_range; split = ap (drop 1) s.split })
start_of mid e rest s = absurd (omega (arith, ap (λ (l : List ℕ). get_or l 0 0) s.split))

pub no_start : (mid : List ℕ) → NoneStands (pair_is is_identity is_name) (pair_bytes identity_bytes name_bytes) mid → NoneStands is_event event_bytes (6 ∷ mid)
no_start mid none e rest s = let p = start_of mid e rest s in none p.0 rest p.2

complete_of : (mid : List ℕ) (e : Event) (rest : List ℕ) → Stands is_event event_bytes (7 ∷ mid) e rest → (p : ((List ℕ) × (List Value))) × (e ≡ events.Complete p.0 p.1) × Stands (pair_is is_identity is_row) (pair_bytes identity_bytes row_bytes) mid p rest
complete_of mid (events.Complete j out) rest s = ((j, out), refl, record { in_range = s.in_range; split = ap (drop 1) s.split })
complete_of mid e rest s = absurd (omega (arith, ap (λ (l : List ℕ). get_or l 0 0) s.split))

pub no_complete : (mid : List ℕ) → NoneStands (pair_is is_identity is_row) (pair_bytes identity_bytes row_bytes) mid → NoneStands is_event event_bytes (7 ∷ mid)
no_complete mid none e rest s = let p = complete_of mid e rest s in none p.0 rest p.2

exit_of : (mid : List ℕ) (e : Event) (rest : List ℕ) → Stands is_event event_bytes (8 ∷ mid) e rest → (p : ((List ℕ) × ((List ℕ) × (List Place)))) × (e ≡ events.Exit p.0 p.1.0 p.1.1) × Stands (pair_is is_identity (pair_is is_name (is_list is_place))) (pair_bytes identity_bytes (pair_bytes name_bytes (list_bytes place_bytes))) mid p rest
exit_of mid (events.Exit i t places) rest s = ((i, (t, places)), refl, record { in_range = s.in_range; split = ap (drop 1) s.split })
exit_of mid e rest s = absurd (omega (arith, ap (λ (l : List ℕ). get_or l 0 0) s.split))

pub no_exit : (mid : List ℕ) → NoneStands (pair_is is_identity (pair_is is_name (is_list is_place))) (pair_bytes identity_bytes (pair_bytes name_bytes (list_bytes place_bytes))) mid → NoneStands is_event event_bytes (8 ∷ mid)
no_exit mid none e rest s = let p = exit_of mid e rest s in none p.0 rest p.2

add_of : (mid : List ℕ) (e : Event) (rest : List ℕ) → Stands is_event event_bytes (9 ∷ mid) e rest → (p : ((List ℕ) × ((List ℕ) × (Value × ℕ)))) × (e ≡ events.Add p.0 p.1.0 p.1.1.0 p.1.1.1) × Stands (pair_is is_identity (pair_is is_name (pair_is is_value is_u64))) (pair_bytes identity_bytes (pair_bytes name_bytes (pair_bytes value_bytes u64_bytes))) mid p rest
add_of mid (events.Add i t v n) rest s = ((i, (t, (v, n))), refl, record { in_range = s.in_range; split = ap (drop 1) s.split })
add_of mid e rest s = absurd (omega (arith, ap (λ (l : List ℕ). get_or l 0 0) s.split))

pub no_add : (mid : List ℕ) → NoneStands (pair_is is_identity (pair_is is_name (pair_is is_value is_u64))) (pair_bytes identity_bytes (pair_bytes name_bytes (pair_bytes value_bytes u64_bytes))) mid → NoneStands is_event event_bytes (9 ∷ mid)
no_add mid none e rest s = let p = add_of mid e rest s in none p.0 rest p.2

finish_of : (mid : List ℕ) (e : Event) (rest : List ℕ) → Stands is_event event_bytes (10 ∷ mid) e rest → (p : ℕ) × (e ≡ events.Finish p) × Stands is_u64 u64_bytes mid p rest
finish_of mid (events.Finish n) rest s = (n, refl, record { in_range = s.in_range; split = ap (drop 1) s.split })
finish_of mid e rest s = absurd (omega (arith, ap (λ (l : List ℕ). get_or l 0 0) s.split))

pub no_finish : (mid : List ℕ) → NoneStands is_u64 u64_bytes mid → NoneStands is_event event_bytes (10 ∷ mid)
no_finish mid none e rest s = let p = finish_of mid e rest s in none p.0 rest p.2

cancel_of : (mid : List ℕ) (e : Event) (rest : List ℕ) → Stands is_event event_bytes (11 ∷ mid) e rest → (p : ℕ) × (e ≡ events.Cancel p) × Stands is_u64 u64_bytes mid p rest
cancel_of mid (events.Cancel n) rest s = (n, refl, record { in_range = s.in_range; split = ap (drop 1) s.split })
cancel_of mid e rest s = absurd (omega (arith, ap (λ (l : List ℕ). get_or l 0 0) s.split))

pub no_cancel : (mid : List ℕ) → NoneStands is_u64 u64_bytes mid → NoneStands is_event event_bytes (11 ∷ mid)
no_cancel mid none e rest s = let p = cancel_of mid e rest s in none p.0 rest p.2

start_sub_of : (mid : List ℕ) (e : Event) (rest : List ℕ) → Stands is_event event_bytes (12 ∷ mid) e rest → (p : (List ℕ)) × (e ≡ events.StartSub p) × Stands is_identity identity_bytes mid p rest
start_sub_of mid (events.StartSub j) rest s = (j, refl, record { in_range = s.in_range; split = ap (drop 1) s.split })
start_sub_of mid e rest s = absurd (omega (arith, ap (λ (l : List ℕ). get_or l 0 0) s.split))

pub no_start_sub : (mid : List ℕ) → NoneStands is_identity identity_bytes mid → NoneStands is_event event_bytes (12 ∷ mid)
no_start_sub mid none e rest s = let p = start_sub_of mid e rest s in none p.0 rest p.2

complete_sub_of : (mid : List ℕ) (e : Event) (rest : List ℕ) → Stands is_event event_bytes (13 ∷ mid) e rest → (p : (List ℕ)) × (e ≡ events.CompleteSub p) × Stands is_identity identity_bytes mid p rest
complete_sub_of mid (events.CompleteSub j) rest s = (j, refl, record { in_range = s.in_range; split = ap (drop 1) s.split })
complete_sub_of mid e rest s = absurd (omega (arith, ap (λ (l : List ℕ). get_or l 0 0) s.split))

pub no_complete_sub : (mid : List ℕ) → NoneStands is_identity identity_bytes mid → NoneStands is_event event_bytes (13 ∷ mid)
no_complete_sub mid none e rest s = let p = complete_sub_of mid e rest s in none p.0 rest p.2

complete_empty_of : (mid : List ℕ) (e : Event) (rest : List ℕ) → Stands is_event event_bytes (14 ∷ mid) e rest → (p : (List ℕ)) × (e ≡ events.CompleteEmpty p) × Stands is_identity identity_bytes mid p rest
complete_empty_of mid (events.CompleteEmpty j) rest s = (j, refl, record { in_range = s.in_range; split = ap (drop 1) s.split })
complete_empty_of mid e rest s = absurd (omega (arith, ap (λ (l : List ℕ). get_or l 0 0) s.split))

pub no_complete_empty : (mid : List ℕ) → NoneStands is_identity identity_bytes mid → NoneStands is_event event_bytes (14 ∷ mid)
no_complete_empty mid none e rest s = let p = complete_empty_of mid e rest s in none p.0 rest p.2

pass_of : (mid : List ℕ) (e : Event) (rest : List ℕ) → Stands is_event event_bytes (15 ∷ mid) e rest → (p : ((List ℕ) × TreeKind)) × (e ≡ events.Pass p.0 p.1) × Stands (pair_is is_identity is_kind) (pair_bytes identity_bytes kind_bytes) mid p rest
pass_of mid (events.Pass j check) rest s = ((j, check), refl, record { in_range = s.in_range; split = ap (drop 1) s.split })
pass_of mid e rest s = absurd (omega (arith, ap (λ (l : List ℕ). get_or l 0 0) s.split))

pub no_pass : (mid : List ℕ) → NoneStands (pair_is is_identity is_kind) (pair_bytes identity_bytes kind_bytes) mid → NoneStands is_event event_bytes (15 ∷ mid)
no_pass mid none e rest s = let p = pass_of mid e rest s in none p.0 rest p.2

exception_of : (mid : List ℕ) (e : Event) (rest : List ℕ) → Stands is_event event_bytes (16 ∷ mid) e rest → (p : ((List ℕ) × (TreeKind × (ℕ × ℕ)))) × (e ≡ events.Except p.0 p.1.0 p.1.1.0 p.1.1.1) × Stands (pair_is is_identity (pair_is is_kind (pair_is is_u32 is_u64))) (pair_bytes identity_bytes (pair_bytes kind_bytes (pair_bytes u32_bytes u64_bytes))) mid p rest
exception_of mid (events.Except j check node n) rest s = ((j, (check, (node, n))), refl, record { in_range = s.in_range; split = ap (drop 1) s.split })
exception_of mid e rest s = absurd (omega (arith, ap (λ (l : List ℕ). get_or l 0 0) s.split))

pub no_exception : (mid : List ℕ) → NoneStands (pair_is is_identity (pair_is is_kind (pair_is is_u32 is_u64))) (pair_bytes identity_bytes (pair_bytes kind_bytes (pair_bytes u32_bytes u64_bytes))) mid → NoneStands is_event event_bytes (16 ∷ mid)
no_exception mid none e rest s = let p = exception_of mid e rest s in none p.0 rest p.2

substitute_of : (mid : List ℕ) (e : Event) (rest : List ℕ) → Stands is_event event_bytes (17 ∷ mid) e rest → (p : ((List ℕ) × (List ℕ))) × (e ≡ events.Substitute p.0 p.1) × Stands (pair_is is_identity is_name) (pair_bytes identity_bytes name_bytes) mid p rest
substitute_of mid (events.Substitute j worklet) rest s = ((j, worklet), refl, record { in_range = s.in_range; split = ap (drop 1) s.split })
substitute_of mid e rest s = absurd (omega (arith, ap (λ (l : List ℕ). get_or l 0 0) s.split))

pub no_substitute : (mid : List ℕ) → NoneStands (pair_is is_identity is_name) (pair_bytes identity_bytes name_bytes) mid → NoneStands is_event event_bytes (17 ∷ mid)
no_substitute mid none e rest s = let p = substitute_of mid e rest s in none p.0 rest p.2

complete_worklet_of : (mid : List ℕ) (e : Event) (rest : List ℕ) → Stands is_event event_bytes (18 ∷ mid) e rest → (p : (List ℕ)) × (e ≡ events.CompleteWorklet p) × Stands is_identity identity_bytes mid p rest
complete_worklet_of mid (events.CompleteWorklet j) rest s = (j, refl, record { in_range = s.in_range; split = ap (drop 1) s.split })
complete_worklet_of mid e rest s = absurd (omega (arith, ap (λ (l : List ℕ). get_or l 0 0) s.split))

pub no_complete_worklet : (mid : List ℕ) → NoneStands is_identity identity_bytes mid → NoneStands is_event event_bytes (18 ∷ mid)
no_complete_worklet mid none e rest s = let p = complete_worklet_of mid e rest s in none p.0 rest p.2

raised_of : (mid : List ℕ) (e : Event) (rest : List ℕ) → Stands is_event event_bytes (19 ∷ mid) e rest → (p : ((List ℕ) × (TreeKind × (ℕ × ℕ)))) × (e ≡ events.Raise p.0 p.1.0 p.1.1.0 p.1.1.1) × Stands (pair_is is_identity (pair_is is_kind (pair_is is_u32 is_u64))) (pair_bytes identity_bytes (pair_bytes kind_bytes (pair_bytes u32_bytes u64_bytes))) mid p rest
raised_of mid (events.Raise j kind node n) rest s = ((j, (kind, (node, n))), refl, record { in_range = s.in_range; split = ap (drop 1) s.split })
raised_of mid e rest s = absurd (omega (arith, ap (λ (l : List ℕ). get_or l 0 0) s.split))

pub no_raised : (mid : List ℕ) → NoneStands (pair_is is_identity (pair_is is_kind (pair_is is_u32 is_u64))) (pair_bytes identity_bytes (pair_bytes kind_bytes (pair_bytes u32_bytes u64_bytes))) mid → NoneStands is_event event_bytes (19 ∷ mid)
no_raised mid none e rest s = let p = raised_of mid e rest s in none p.0 rest p.2

primitive_of : (mid : List ℕ) (e : Event) (rest : List ℕ) → Stands is_event event_bytes (20 ∷ mid) e rest → (p : ((List ℕ) × Primitive)) × (e ≡ events.Prim p.0 p.1) × Stands (pair_is is_identity is_primitive) (pair_bytes identity_bytes primitive_bytes) mid p rest
primitive_of mid (events.Prim r primitive) rest s = ((r, primitive), refl, record { in_range = s.in_range; split = ap (drop 1) s.split })
primitive_of mid e rest s = absurd (omega (arith, ap (λ (l : List ℕ). get_or l 0 0) s.split))

pub no_primitive : (mid : List ℕ) → NoneStands (pair_is is_identity is_primitive) (pair_bytes identity_bytes primitive_bytes) mid → NoneStands is_event event_bytes (20 ∷ mid)
no_primitive mid none e rest s = let p = primitive_of mid e rest s in none p.0 rest p.2

compensated_of : (mid : List ℕ) (e : Event) (rest : List ℕ) → Stands is_event event_bytes (21 ∷ mid) e rest → (p : (List ℕ)) × (e ≡ events.Compensated p) × Stands is_identity identity_bytes mid p rest
compensated_of mid (events.Compensated r) rest s = (r, refl, record { in_range = s.in_range; split = ap (drop 1) s.split })
compensated_of mid e rest s = absurd (omega (arith, ap (λ (l : List ℕ). get_or l 0 0) s.split))

pub no_compensated : (mid : List ℕ) → NoneStands is_identity identity_bytes mid → NoneStands is_event event_bytes (21 ∷ mid)
no_compensated mid none e rest s = let p = compensated_of mid e rest s in none p.0 rest p.2

suspend_of : (mid : List ℕ) (e : Event) (rest : List ℕ) → Stands is_event event_bytes (22 ∷ mid) e rest → (p : (List ℕ)) × (e ≡ events.Suspend p) × Stands is_identity identity_bytes mid p rest
suspend_of mid (events.Suspend j) rest s = (j, refl, record { in_range = s.in_range; split = ap (drop 1) s.split })
suspend_of mid e rest s = absurd (omega (arith, ap (λ (l : List ℕ). get_or l 0 0) s.split))

pub no_suspend : (mid : List ℕ) → NoneStands is_identity identity_bytes mid → NoneStands is_event event_bytes (22 ∷ mid)
no_suspend mid none e rest s = let p = suspend_of mid e rest s in none p.0 rest p.2

go_on_of : (mid : List ℕ) (e : Event) (rest : List ℕ) → Stands is_event event_bytes (23 ∷ mid) e rest → (p : (List ℕ)) × (e ≡ events.Continue p) × Stands is_identity identity_bytes mid p rest
go_on_of mid (events.Continue j) rest s = (j, refl, record { in_range = s.in_range; split = ap (drop 1) s.split })
go_on_of mid e rest s = absurd (omega (arith, ap (λ (l : List ℕ). get_or l 0 0) s.split))

pub no_go_on : (mid : List ℕ) → NoneStands is_identity identity_bytes mid → NoneStands is_event event_bytes (23 ∷ mid)
no_go_on mid none e rest s = let p = go_on_of mid e rest s in none p.0 rest p.2

advance_of : (mid : List ℕ) (e : Event) (rest : List ℕ) → Stands is_event event_bytes (24 ∷ mid) e rest → (p : ℕ) × (e ≡ events.Advance p) × Stands is_u64 u64_bytes mid p rest
advance_of mid (events.Advance n) rest s = (n, refl, record { in_range = s.in_range; split = ap (drop 1) s.split })
advance_of mid e rest s = absurd (omega (arith, ap (λ (l : List ℕ). get_or l 0 0) s.split))

pub no_advance : (mid : List ℕ) → NoneStands is_u64 u64_bytes mid → NoneStands is_event event_bytes (24 ∷ mid)
no_advance mid none e rest s = let p = advance_of mid e rest s in none p.0 rest p.2

-- ---- two events at one front are one

same_person : (a : ((List ℕ) × (List (List ℕ)))) (f : Event) (mid x y : List ℕ) → Stands (pair_is is_name (is_short_list is_name)) (pair_bytes name_bytes (short_list_bytes name_bytes)) mid a x → Stands is_event event_bytes (1 ∷ mid) f y → (events.Person a.0 a.1 ≡ f) × (x ≡ y)
same_person a f mid x y s u =
    let p = person_of mid f y u in
    let same = pair_apart is_name name_bytes (is_short_list is_name) (short_list_bytes name_bytes) name_apart (short_list_apart is_name name_bytes name_apart) a p.0 mid x y s p.2 in
    (ap (λ (v : ((List ℕ) × (List (List ℕ)))). events.Person v.0 v.1) same.0 ∙ sym p.1, same.1)

same_load : (a : ((List ℕ) × (List ℕ))) (f : Event) (mid x y : List ℕ) → Stands (pair_is is_name is_text) (pair_bytes name_bytes text_bytes) mid a x → Stands is_event event_bytes (2 ∷ mid) f y → (events.Load a.0 a.1 ≡ f) × (x ≡ y)
same_load a f mid x y s u =
    let p = load_of mid f y u in
    let same = pair_apart is_name name_bytes is_text text_bytes name_apart text_apart a p.0 mid x y s p.2 in
    (ap (λ (v : ((List ℕ) × (List ℕ))). events.Load v.0 v.1) same.0 ∙ sym p.1, same.1)

same_rule : (a : (TreePlace × (ℕ × (Bool × ((List ℕ) × (Conclusion × ℕ)))))) (f : Event) (mid x y : List ℕ) → Stands (pair_is is_tree (pair_is is_u32 (pair_is is_flag (pair_is is_text (pair_is is_conclusion is_u32))))) (pair_bytes tree_bytes (pair_bytes u32_bytes (pair_bytes flag_bytes (pair_bytes text_bytes (pair_bytes conclusion_bytes u32_bytes))))) mid a x → Stands is_event event_bytes (3 ∷ mid) f y → (events.AddRule a.0 a.1.0 a.1.1.0 a.1.1.1.0 a.1.1.1.1.0 a.1.1.1.1.1 ≡ f) × (x ≡ y)
same_rule a f mid x y s u =
    let p = rule_of mid f y u in
    let same = pair_apart is_tree tree_bytes (pair_is is_u32 (pair_is is_flag (pair_is is_text (pair_is is_conclusion is_u32)))) (pair_bytes u32_bytes (pair_bytes flag_bytes (pair_bytes text_bytes (pair_bytes conclusion_bytes u32_bytes)))) tree_apart (pair_apart is_u32 u32_bytes (pair_is is_flag (pair_is is_text (pair_is is_conclusion is_u32))) (pair_bytes flag_bytes (pair_bytes text_bytes (pair_bytes conclusion_bytes u32_bytes))) u32_apart (pair_apart is_flag flag_bytes (pair_is is_text (pair_is is_conclusion is_u32)) (pair_bytes text_bytes (pair_bytes conclusion_bytes u32_bytes)) flag_apart (pair_apart is_text text_bytes (pair_is is_conclusion is_u32) (pair_bytes conclusion_bytes u32_bytes) text_apart (pair_apart is_conclusion conclusion_bytes is_u32 u32_bytes conclusion_apart u32_apart)))) a p.0 mid x y s p.2 in
    (ap (λ (v : (TreePlace × (ℕ × (Bool × ((List ℕ) × (Conclusion × ℕ)))))). events.AddRule v.0 v.1.0 v.1.1.0 v.1.1.1.0 v.1.1.1.1.0 v.1.1.1.1.1) same.0 ∙ sym p.1, same.1)

same_launch : (a : (ℕ × ((List ℕ) × (List Value)))) (f : Event) (mid x y : List ℕ) → Stands (pair_is is_u64 (pair_is is_name is_row)) (pair_bytes u64_bytes (pair_bytes name_bytes row_bytes)) mid a x → Stands is_event event_bytes (4 ∷ mid) f y → (events.Launch a.0 a.1.0 a.1.1 ≡ f) × (x ≡ y)
same_launch a f mid x y s u =
    let p = launch_of mid f y u in
    let same = pair_apart is_u64 u64_bytes (pair_is is_name is_row) (pair_bytes name_bytes row_bytes) u64_apart (pair_apart is_name name_bytes is_row row_bytes name_apart (list_apart is_value value_bytes value_apart)) a p.0 mid x y s p.2 in
    (ap (λ (v : (ℕ × ((List ℕ) × (List Value)))). events.Launch v.0 v.1.0 v.1.1) same.0 ∙ sym p.1, same.1)

same_enter : (a : ((List ℕ) × ((List ℕ) × ((List Place) × (ℕ × ℕ))))) (f : Event) (mid x y : List ℕ) → Stands (pair_is is_identity (pair_is is_name (pair_is (is_list is_place) (pair_is is_u64 is_u32)))) (pair_bytes identity_bytes (pair_bytes name_bytes (pair_bytes (list_bytes place_bytes) (pair_bytes u64_bytes u32_bytes)))) mid a x → Stands is_event event_bytes (5 ∷ mid) f y → (events.Enter a.0 a.1.0 a.1.1.0 a.1.1.1.0 a.1.1.1.1 ≡ f) × (x ≡ y)
same_enter a f mid x y s u =
    let p = enter_of mid f y u in
    let same = pair_apart is_identity identity_bytes (pair_is is_name (pair_is (is_list is_place) (pair_is is_u64 is_u32))) (pair_bytes name_bytes (pair_bytes (list_bytes place_bytes) (pair_bytes u64_bytes u32_bytes))) identity_apart (pair_apart is_name name_bytes (pair_is (is_list is_place) (pair_is is_u64 is_u32)) (pair_bytes (list_bytes place_bytes) (pair_bytes u64_bytes u32_bytes)) name_apart (pair_apart (is_list is_place) (list_bytes place_bytes) (pair_is is_u64 is_u32) (pair_bytes u64_bytes u32_bytes) (list_apart is_place place_bytes place_apart) (pair_apart is_u64 u64_bytes is_u32 u32_bytes u64_apart u32_apart))) a p.0 mid x y s p.2 in
    (ap (λ (v : ((List ℕ) × ((List ℕ) × ((List Place) × (ℕ × ℕ))))). events.Enter v.0 v.1.0 v.1.1.0 v.1.1.1.0 v.1.1.1.1) same.0 ∙ sym p.1, same.1)

same_start : (a : ((List ℕ) × (List ℕ))) (f : Event) (mid x y : List ℕ) → Stands (pair_is is_identity is_name) (pair_bytes identity_bytes name_bytes) mid a x → Stands is_event event_bytes (6 ∷ mid) f y → (events.Start a.0 a.1 ≡ f) × (x ≡ y)
same_start a f mid x y s u =
    let p = start_of mid f y u in
    let same = pair_apart is_identity identity_bytes is_name name_bytes identity_apart name_apart a p.0 mid x y s p.2 in
    (ap (λ (v : ((List ℕ) × (List ℕ))). events.Start v.0 v.1) same.0 ∙ sym p.1, same.1)

same_complete : (a : ((List ℕ) × (List Value))) (f : Event) (mid x y : List ℕ) → Stands (pair_is is_identity is_row) (pair_bytes identity_bytes row_bytes) mid a x → Stands is_event event_bytes (7 ∷ mid) f y → (events.Complete a.0 a.1 ≡ f) × (x ≡ y)
same_complete a f mid x y s u =
    let p = complete_of mid f y u in
    let same = pair_apart is_identity identity_bytes is_row row_bytes identity_apart (list_apart is_value value_bytes value_apart) a p.0 mid x y s p.2 in
    (ap (λ (v : ((List ℕ) × (List Value))). events.Complete v.0 v.1) same.0 ∙ sym p.1, same.1)

same_exit : (a : ((List ℕ) × ((List ℕ) × (List Place)))) (f : Event) (mid x y : List ℕ) → Stands (pair_is is_identity (pair_is is_name (is_list is_place))) (pair_bytes identity_bytes (pair_bytes name_bytes (list_bytes place_bytes))) mid a x → Stands is_event event_bytes (8 ∷ mid) f y → (events.Exit a.0 a.1.0 a.1.1 ≡ f) × (x ≡ y)
same_exit a f mid x y s u =
    let p = exit_of mid f y u in
    let same = pair_apart is_identity identity_bytes (pair_is is_name (is_list is_place)) (pair_bytes name_bytes (list_bytes place_bytes)) identity_apart (pair_apart is_name name_bytes (is_list is_place) (list_bytes place_bytes) name_apart (list_apart is_place place_bytes place_apart)) a p.0 mid x y s p.2 in
    (ap (λ (v : ((List ℕ) × ((List ℕ) × (List Place)))). events.Exit v.0 v.1.0 v.1.1) same.0 ∙ sym p.1, same.1)

same_add : (a : ((List ℕ) × ((List ℕ) × (Value × ℕ)))) (f : Event) (mid x y : List ℕ) → Stands (pair_is is_identity (pair_is is_name (pair_is is_value is_u64))) (pair_bytes identity_bytes (pair_bytes name_bytes (pair_bytes value_bytes u64_bytes))) mid a x → Stands is_event event_bytes (9 ∷ mid) f y → (events.Add a.0 a.1.0 a.1.1.0 a.1.1.1 ≡ f) × (x ≡ y)
same_add a f mid x y s u =
    let p = add_of mid f y u in
    let same = pair_apart is_identity identity_bytes (pair_is is_name (pair_is is_value is_u64)) (pair_bytes name_bytes (pair_bytes value_bytes u64_bytes)) identity_apart (pair_apart is_name name_bytes (pair_is is_value is_u64) (pair_bytes value_bytes u64_bytes) name_apart (pair_apart is_value value_bytes is_u64 u64_bytes value_apart u64_apart)) a p.0 mid x y s p.2 in
    (ap (λ (v : ((List ℕ) × ((List ℕ) × (Value × ℕ)))). events.Add v.0 v.1.0 v.1.1.0 v.1.1.1) same.0 ∙ sym p.1, same.1)

same_finish : (a : ℕ) (f : Event) (mid x y : List ℕ) → Stands is_u64 u64_bytes mid a x → Stands is_event event_bytes (10 ∷ mid) f y → (events.Finish a ≡ f) × (x ≡ y)
same_finish a f mid x y s u =
    let p = finish_of mid f y u in
    let same = u64_apart a p.0 mid x y s p.2 in
    (ap (λ (v : ℕ). events.Finish v) same.0 ∙ sym p.1, same.1)

same_cancel : (a : ℕ) (f : Event) (mid x y : List ℕ) → Stands is_u64 u64_bytes mid a x → Stands is_event event_bytes (11 ∷ mid) f y → (events.Cancel a ≡ f) × (x ≡ y)
same_cancel a f mid x y s u =
    let p = cancel_of mid f y u in
    let same = u64_apart a p.0 mid x y s p.2 in
    (ap (λ (v : ℕ). events.Cancel v) same.0 ∙ sym p.1, same.1)

same_start_sub : (a : (List ℕ)) (f : Event) (mid x y : List ℕ) → Stands is_identity identity_bytes mid a x → Stands is_event event_bytes (12 ∷ mid) f y → (events.StartSub a ≡ f) × (x ≡ y)
same_start_sub a f mid x y s u =
    let p = start_sub_of mid f y u in
    let same = identity_apart a p.0 mid x y s p.2 in
    (ap (λ (v : (List ℕ)). events.StartSub v) same.0 ∙ sym p.1, same.1)

same_complete_sub : (a : (List ℕ)) (f : Event) (mid x y : List ℕ) → Stands is_identity identity_bytes mid a x → Stands is_event event_bytes (13 ∷ mid) f y → (events.CompleteSub a ≡ f) × (x ≡ y)
same_complete_sub a f mid x y s u =
    let p = complete_sub_of mid f y u in
    let same = identity_apart a p.0 mid x y s p.2 in
    (ap (λ (v : (List ℕ)). events.CompleteSub v) same.0 ∙ sym p.1, same.1)

same_complete_empty : (a : (List ℕ)) (f : Event) (mid x y : List ℕ) → Stands is_identity identity_bytes mid a x → Stands is_event event_bytes (14 ∷ mid) f y → (events.CompleteEmpty a ≡ f) × (x ≡ y)
same_complete_empty a f mid x y s u =
    let p = complete_empty_of mid f y u in
    let same = identity_apart a p.0 mid x y s p.2 in
    (ap (λ (v : (List ℕ)). events.CompleteEmpty v) same.0 ∙ sym p.1, same.1)

same_pass : (a : ((List ℕ) × TreeKind)) (f : Event) (mid x y : List ℕ) → Stands (pair_is is_identity is_kind) (pair_bytes identity_bytes kind_bytes) mid a x → Stands is_event event_bytes (15 ∷ mid) f y → (events.Pass a.0 a.1 ≡ f) × (x ≡ y)
same_pass a f mid x y s u =
    let p = pass_of mid f y u in
    let same = pair_apart is_identity identity_bytes is_kind kind_bytes identity_apart kind_apart a p.0 mid x y s p.2 in
    (ap (λ (v : ((List ℕ) × TreeKind)). events.Pass v.0 v.1) same.0 ∙ sym p.1, same.1)

same_exception : (a : ((List ℕ) × (TreeKind × (ℕ × ℕ)))) (f : Event) (mid x y : List ℕ) → Stands (pair_is is_identity (pair_is is_kind (pair_is is_u32 is_u64))) (pair_bytes identity_bytes (pair_bytes kind_bytes (pair_bytes u32_bytes u64_bytes))) mid a x → Stands is_event event_bytes (16 ∷ mid) f y → (events.Except a.0 a.1.0 a.1.1.0 a.1.1.1 ≡ f) × (x ≡ y)
same_exception a f mid x y s u =
    let p = exception_of mid f y u in
    let same = pair_apart is_identity identity_bytes (pair_is is_kind (pair_is is_u32 is_u64)) (pair_bytes kind_bytes (pair_bytes u32_bytes u64_bytes)) identity_apart (pair_apart is_kind kind_bytes (pair_is is_u32 is_u64) (pair_bytes u32_bytes u64_bytes) kind_apart (pair_apart is_u32 u32_bytes is_u64 u64_bytes u32_apart u64_apart)) a p.0 mid x y s p.2 in
    (ap (λ (v : ((List ℕ) × (TreeKind × (ℕ × ℕ)))). events.Except v.0 v.1.0 v.1.1.0 v.1.1.1) same.0 ∙ sym p.1, same.1)

same_substitute : (a : ((List ℕ) × (List ℕ))) (f : Event) (mid x y : List ℕ) → Stands (pair_is is_identity is_name) (pair_bytes identity_bytes name_bytes) mid a x → Stands is_event event_bytes (17 ∷ mid) f y → (events.Substitute a.0 a.1 ≡ f) × (x ≡ y)
same_substitute a f mid x y s u =
    let p = substitute_of mid f y u in
    let same = pair_apart is_identity identity_bytes is_name name_bytes identity_apart name_apart a p.0 mid x y s p.2 in
    (ap (λ (v : ((List ℕ) × (List ℕ))). events.Substitute v.0 v.1) same.0 ∙ sym p.1, same.1)

same_complete_worklet : (a : (List ℕ)) (f : Event) (mid x y : List ℕ) → Stands is_identity identity_bytes mid a x → Stands is_event event_bytes (18 ∷ mid) f y → (events.CompleteWorklet a ≡ f) × (x ≡ y)
same_complete_worklet a f mid x y s u =
    let p = complete_worklet_of mid f y u in
    let same = identity_apart a p.0 mid x y s p.2 in
    (ap (λ (v : (List ℕ)). events.CompleteWorklet v) same.0 ∙ sym p.1, same.1)

same_raised : (a : ((List ℕ) × (TreeKind × (ℕ × ℕ)))) (f : Event) (mid x y : List ℕ) → Stands (pair_is is_identity (pair_is is_kind (pair_is is_u32 is_u64))) (pair_bytes identity_bytes (pair_bytes kind_bytes (pair_bytes u32_bytes u64_bytes))) mid a x → Stands is_event event_bytes (19 ∷ mid) f y → (events.Raise a.0 a.1.0 a.1.1.0 a.1.1.1 ≡ f) × (x ≡ y)
same_raised a f mid x y s u =
    let p = raised_of mid f y u in
    let same = pair_apart is_identity identity_bytes (pair_is is_kind (pair_is is_u32 is_u64)) (pair_bytes kind_bytes (pair_bytes u32_bytes u64_bytes)) identity_apart (pair_apart is_kind kind_bytes (pair_is is_u32 is_u64) (pair_bytes u32_bytes u64_bytes) kind_apart (pair_apart is_u32 u32_bytes is_u64 u64_bytes u32_apart u64_apart)) a p.0 mid x y s p.2 in
    (ap (λ (v : ((List ℕ) × (TreeKind × (ℕ × ℕ)))). events.Raise v.0 v.1.0 v.1.1.0 v.1.1.1) same.0 ∙ sym p.1, same.1)

same_primitive : (a : ((List ℕ) × Primitive)) (f : Event) (mid x y : List ℕ) → Stands (pair_is is_identity is_primitive) (pair_bytes identity_bytes primitive_bytes) mid a x → Stands is_event event_bytes (20 ∷ mid) f y → (events.Prim a.0 a.1 ≡ f) × (x ≡ y)
same_primitive a f mid x y s u =
    let p = primitive_of mid f y u in
    let same = pair_apart is_identity identity_bytes is_primitive primitive_bytes identity_apart primitive_apart a p.0 mid x y s p.2 in
    (ap (λ (v : ((List ℕ) × Primitive)). events.Prim v.0 v.1) same.0 ∙ sym p.1, same.1)

same_compensated : (a : (List ℕ)) (f : Event) (mid x y : List ℕ) → Stands is_identity identity_bytes mid a x → Stands is_event event_bytes (21 ∷ mid) f y → (events.Compensated a ≡ f) × (x ≡ y)
same_compensated a f mid x y s u =
    let p = compensated_of mid f y u in
    let same = identity_apart a p.0 mid x y s p.2 in
    (ap (λ (v : (List ℕ)). events.Compensated v) same.0 ∙ sym p.1, same.1)

same_suspend : (a : (List ℕ)) (f : Event) (mid x y : List ℕ) → Stands is_identity identity_bytes mid a x → Stands is_event event_bytes (22 ∷ mid) f y → (events.Suspend a ≡ f) × (x ≡ y)
same_suspend a f mid x y s u =
    let p = suspend_of mid f y u in
    let same = identity_apart a p.0 mid x y s p.2 in
    (ap (λ (v : (List ℕ)). events.Suspend v) same.0 ∙ sym p.1, same.1)

same_go_on : (a : (List ℕ)) (f : Event) (mid x y : List ℕ) → Stands is_identity identity_bytes mid a x → Stands is_event event_bytes (23 ∷ mid) f y → (events.Continue a ≡ f) × (x ≡ y)
same_go_on a f mid x y s u =
    let p = go_on_of mid f y u in
    let same = identity_apart a p.0 mid x y s p.2 in
    (ap (λ (v : (List ℕ)). events.Continue v) same.0 ∙ sym p.1, same.1)

same_advance : (a : ℕ) (f : Event) (mid x y : List ℕ) → Stands is_u64 u64_bytes mid a x → Stands is_event event_bytes (24 ∷ mid) f y → (events.Advance a ≡ f) × (x ≡ y)
same_advance a f mid x y s u =
    let p = advance_of mid f y u in
    let same = u64_apart a p.0 mid x y s p.2 in
    (ap (λ (v : ℕ). events.Advance v) same.0 ∙ sym p.1, same.1)

-- the tag and the fields of the first, of which the other is one too
at_front : (e f : Event) (whole x y : List ℕ) → Stands is_event event_bytes whole e x → Stands is_event event_bytes whole f y → Stands is_event event_bytes (event_bytes e ++ x) f y
at_front e f whole x y s u = record { in_range = u.in_range; split = sym s.split ∙ u.split }

pub event_apart : AreApart is_event event_bytes
event_apart (events.Person name roles) f whole x y s u =
    same_person (name, roles) f ((name_bytes name ++ short_list_bytes name_bytes roles) ++ x) x y (record { in_range = s.in_range; split = refl }) (at_front (events.Person name roles) f whole x y s u)
event_apart (events.Load name text) f whole x y s u =
    same_load (name, text) f ((name_bytes name ++ text_bytes text) ++ x) x y (record { in_range = s.in_range; split = refl }) (at_front (events.Load name text) f whole x y s u)
event_apart (events.AddRule place at side when conclusion number) f whole x y s u =
    same_rule (place, (at, (side, (when, (conclusion, number))))) f ((tree_bytes place ++ (u32_bytes at ++ (flag_bytes side ++ (text_bytes when ++ (conclusion_bytes conclusion ++ u32_bytes number))))) ++ x) x y (record { in_range = s.in_range; split = refl }) (at_front (events.AddRule place at side when conclusion number) f whole x y s u)
event_apart (events.Launch n spec row) f whole x y s u =
    same_launch (n, (spec, row)) f ((u64_bytes n ++ (name_bytes spec ++ row_bytes row)) ++ x) x y (record { in_range = s.in_range; split = refl }) (at_front (events.Launch n spec row) f whole x y s u)
event_apart (events.Enter i t places first count) f whole x y s u =
    same_enter (i, (t, (places, (first, count)))) f ((identity_bytes i ++ (name_bytes t ++ (list_bytes place_bytes places ++ (u64_bytes first ++ u32_bytes count)))) ++ x) x y (record { in_range = s.in_range; split = refl }) (at_front (events.Enter i t places first count) f whole x y s u)
event_apart (events.Start j who) f whole x y s u =
    same_start (j, who) f ((identity_bytes j ++ name_bytes who) ++ x) x y (record { in_range = s.in_range; split = refl }) (at_front (events.Start j who) f whole x y s u)
event_apart (events.Complete j out) f whole x y s u =
    same_complete (j, out) f ((identity_bytes j ++ row_bytes out) ++ x) x y (record { in_range = s.in_range; split = refl }) (at_front (events.Complete j out) f whole x y s u)
event_apart (events.Exit i t places) f whole x y s u =
    same_exit (i, (t, places)) f ((identity_bytes i ++ (name_bytes t ++ list_bytes place_bytes places)) ++ x) x y (record { in_range = s.in_range; split = refl }) (at_front (events.Exit i t places) f whole x y s u)
event_apart (events.Add i t v n) f whole x y s u =
    same_add (i, (t, (v, n))) f ((identity_bytes i ++ (name_bytes t ++ (value_bytes v ++ u64_bytes n))) ++ x) x y (record { in_range = s.in_range; split = refl }) (at_front (events.Add i t v n) f whole x y s u)
event_apart (events.Finish n) f whole x y s u =
    same_finish n f (u64_bytes n ++ x) x y (record { in_range = s.in_range; split = refl }) (at_front (events.Finish n) f whole x y s u)
event_apart (events.Cancel n) f whole x y s u =
    same_cancel n f (u64_bytes n ++ x) x y (record { in_range = s.in_range; split = refl }) (at_front (events.Cancel n) f whole x y s u)
event_apart (events.StartSub j) f whole x y s u =
    same_start_sub j f (identity_bytes j ++ x) x y (record { in_range = s.in_range; split = refl }) (at_front (events.StartSub j) f whole x y s u)
event_apart (events.CompleteSub j) f whole x y s u =
    same_complete_sub j f (identity_bytes j ++ x) x y (record { in_range = s.in_range; split = refl }) (at_front (events.CompleteSub j) f whole x y s u)
event_apart (events.CompleteEmpty j) f whole x y s u =
    same_complete_empty j f (identity_bytes j ++ x) x y (record { in_range = s.in_range; split = refl }) (at_front (events.CompleteEmpty j) f whole x y s u)
event_apart (events.Pass j check) f whole x y s u =
    same_pass (j, check) f ((identity_bytes j ++ kind_bytes check) ++ x) x y (record { in_range = s.in_range; split = refl }) (at_front (events.Pass j check) f whole x y s u)
event_apart (events.Except j check node n) f whole x y s u =
    same_exception (j, (check, (node, n))) f ((identity_bytes j ++ (kind_bytes check ++ (u32_bytes node ++ u64_bytes n))) ++ x) x y (record { in_range = s.in_range; split = refl }) (at_front (events.Except j check node n) f whole x y s u)
event_apart (events.Substitute j worklet) f whole x y s u =
    same_substitute (j, worklet) f ((identity_bytes j ++ name_bytes worklet) ++ x) x y (record { in_range = s.in_range; split = refl }) (at_front (events.Substitute j worklet) f whole x y s u)
event_apart (events.CompleteWorklet j) f whole x y s u =
    same_complete_worklet j f (identity_bytes j ++ x) x y (record { in_range = s.in_range; split = refl }) (at_front (events.CompleteWorklet j) f whole x y s u)
event_apart (events.Raise j kind node n) f whole x y s u =
    same_raised (j, (kind, (node, n))) f ((identity_bytes j ++ (kind_bytes kind ++ (u32_bytes node ++ u64_bytes n))) ++ x) x y (record { in_range = s.in_range; split = refl }) (at_front (events.Raise j kind node n) f whole x y s u)
event_apart (events.Prim r primitive) f whole x y s u =
    same_primitive (r, primitive) f ((identity_bytes r ++ primitive_bytes primitive) ++ x) x y (record { in_range = s.in_range; split = refl }) (at_front (events.Prim r primitive) f whole x y s u)
event_apart (events.Compensated r) f whole x y s u =
    same_compensated r f (identity_bytes r ++ x) x y (record { in_range = s.in_range; split = refl }) (at_front (events.Compensated r) f whole x y s u)
event_apart (events.Suspend j) f whole x y s u =
    same_suspend j f (identity_bytes j ++ x) x y (record { in_range = s.in_range; split = refl }) (at_front (events.Suspend j) f whole x y s u)
event_apart (events.Continue j) f whole x y s u =
    same_go_on j f (identity_bytes j ++ x) x y (record { in_range = s.in_range; split = refl }) (at_front (events.Continue j) f whole x y s u)
event_apart (events.Advance n) f whole x y s u =
    same_advance n f (u64_bytes n ++ x) x y (record { in_range = s.in_range; split = refl }) (at_front (events.Advance n) f whole x y s u)

-- the tags of what is built
abbrev pub is_built_tag : ℕ → Bool
is_built_tag tag = tag == 1 || (tag == 2 || (nat_le 4 tag && nat_le tag 14 || nat_le 22 tag && nat_le tag 24))

-- what is built is told by the tag
pub built_by_tag : (e : Event) (rest : List ℕ) (tag : ℕ) → slice_index (event_bytes e ++ rest) 0 ≡ tag → is_built_tag tag ≡ is_built e
built_by_tag (events.Person name roles) rest tag h = ap is_built_tag (sym h)
built_by_tag (events.Load name text) rest tag h = ap is_built_tag (sym h)
built_by_tag e rest tag h = ap is_built_tag (sym h)
