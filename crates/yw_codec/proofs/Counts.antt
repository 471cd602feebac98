-- The count of an entry's events, and what follows it.
use Rattle.std.proofs.Common.{◌≡◌, ℕ, ◌+◌, ◌<◌, ◌≤◌, true, List, ◌++◌, length, take, drop, refl, sym, ap, ◌∙◌, arith, append_assoc, length-append, take-append-drop}
use Rattle.std.specs.List.{list_all, flat_map}
use Rattle.std.proofs.lemmas.List.{take_at, append_cancel_right}
use Rattle.byteorder.specs.Endian.{big_number}
use Rattle.yw_state.specs.declared.event.Event.{Event}
use Rattle.yw_codec.specs.Entries.{is_kept, IsEntry}
use Rattle.yw_codec.specs.Events.{event_bytes}
use Rattle.yw_codec.specs.FieldLaws.{sized_apart}
use Rattle.yw_codec.specs.Forms.{Stands, are_counted}
use Rattle.yw_codec.specs.ListLaws.{are_so_many, counted, each_counted, same_items}
use Rattle.yw_codec.proofs.Kept.{all_built, all_events, all_kept, kept_apart}

-- what was read is an entry
pub entry_read : (bytes field mid rest : List ℕ) (events : List Event) (count size : ℕ) → bytes ≡ field ++ mid → length field ≡ 2 → count ≡ big_number 2 field → 1 ≤ count → count ≤ 4097
    → Stands (are_counted is_kept count) (flat_map event_bytes) mid events rest → size + length rest ≡ length bytes → IsEntry events (take size bytes)
entry_read bytes field mid rest events count size front two number least most read whole =
    let long = counted is_kept count events read.in_range in
    let each = each_counted is_kept count events read.in_range in
    record {
      field = field;
      split = ap (take size) parts ∙ take_at (field ++ flat_map event_bytes events) rest size (omega (arith, ap length parts, length-append (field ++ flat_map event_bytes events) rest));
      count = record { long = two; spells = sym number ∙ sym long };
      some = omega arith;
      few = omega arith;
      each = all_events events each;
      built = all_built events each;
    }
  where
    parts : bytes ≡ (field ++ flat_map event_bytes events) ++ rest
    parts = front ∙ ap (λ (l : List ℕ). field ++ l) read.split ∙ sym (append_assoc field (flat_map event_bytes events) rest)

-- an entry's events stand behind its count
pub entry_parts : (bytes field mid entry rest : List ℕ) (events : List Event) → bytes ≡ field ++ mid → length field ≡ 2 → IsEntry events entry → bytes ≡ entry ++ rest
    → (big_number 2 field ≡ length events) × Stands (are_counted is_kept (length events)) (flat_map event_bytes) mid events rest
entry_parts bytes field mid entry rest events front two is e =
    let whole : bytes ≡ is.field ++ (flat_map event_bytes events ++ rest) = e ∙ ap (λ (l : List ℕ). l ++ rest) is.split ∙ append_assoc is.field (flat_map event_bytes events) rest in
    let same = sized_apart field is.field mid (flat_map event_bytes events ++ rest) (two ∙ sym is.count.long) (sym front ∙ whole) in (
      ap (big_number 2) same.0 ∙ is.count.spells,
      record { in_range = are_so_many is_kept (length events) events (all_kept events is.each is.built) refl; split = same.1 },
    )

-- an entry has two bytes and more
pub entry_long : (bytes entry rest : List ℕ) (events : List Event) → IsEntry events entry → bytes ≡ entry ++ rest → 2 ≤ length bytes
entry_long bytes entry rest events is e =
    omega (arith, ap length e, length-append entry rest, ap length is.split, length-append is.field (flat_map event_bytes events), is.count.long)

-- no entry's bytes are a prefix of another's
pub same_entry : (es fs : List Event) (p q x y : List ℕ) → IsEntry es p → IsEntry fs q → p ++ x ≡ q ++ y → (es ≡ fs) × (p ≡ q) × (x ≡ y)
same_entry es fs p q x y is_p is_q e =
    let split : p ++ x ≡ is_p.field ++ (flat_map event_bytes es ++ x) = ap (λ (l : List ℕ). l ++ x) is_p.split ∙ append_assoc is_p.field (flat_map event_bytes es) x in
    let b = entry_parts (p ++ x) is_p.field (flat_map event_bytes es ++ x) q y fs split is_p.count.long is_q e in
    let same = same_items is_kept event_bytes kept_apart es fs x y (sym is_p.count.spells ∙ b.0) (all_kept es is_p.each is_p.built) (all_kept fs is_q.each is_q.built) b.1.split in
    (same.0, append_cancel_right p q y (ap (λ (l : List ℕ). p ++ l) (sym same.1) ∙ e), same.1)

-- what was read is the one entry at the front
pub only_entry : (bytes : List ℕ) (events : List Event) (size : ℕ) → IsEntry events (take size bytes) → (es : List Event) (entry rest : List ℕ) → IsEntry es entry → bytes ≡ entry ++ rest
    → (es ≡ events) × (entry ≡ take size bytes)
only_entry bytes events size read es entry rest is e =
    let same = same_entry es events entry (take size bytes) rest (drop size bytes) is read (sym e ∙ sym (take-append-drop size bytes)) in
    (same.0, same.1)
