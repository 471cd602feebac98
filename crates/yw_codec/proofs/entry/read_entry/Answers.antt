use Rattle.std.proofs.Common.{◌≡◌, ◌∙◌, ◌≤◌, ◌+◌, ◌-◌, ℕ, List, length, ap, sym, subst, arith, length-append}
use Rattle.std.specs.List.{flat_map}
use Rattle.std.proofs.lemmas.Result.{err_from_is_err_and}
use Rattle.yw_codec.specs.Entries.{is_kept}
use Rattle.yw_codec.specs.Events.{event_bytes}
use Rattle.yw_codec.specs.Forms.{Stands, are_counted}
use Rattle.yw_codec.specs.ListLaws.{each_counted}
use Rattle.yw_codec.proofs.Counts.{entry_read, entry_parts, only_entry}
use Rattle.yw_codec.proofs.Kept.{all_built}
use Rattle.yw_codec.proofs.entry.read_entry.Goals as goal

pub returns-in_err-events-clause-bad : goal.returns-in_err-events-clause-bad
returns-in_err-events-clause-bad c =
    let p = err_from_is_err_and c.from_residual-in_err-events.result c.from_residual-in_err-events.ensures.1 in
    rw (p.1, p.2) (λ bad events entry rest is split.
    let parts = entry_parts c.args.bytes.now c.in_ok-field.field.now c.take.new.self entry rest events (sym c.new-reader.ensures ∙ c.in_ok-field.ensures.ok) c.in_ok-field.ensures.long is split in
    c.in_err-events.ensures.bad bad events rest
    (subst (λ (n : ℕ). Stands (are_counted is_kept n) (flat_map event_bytes) c.take.new.self events rest) (sym parts.0 ∙ sym c.read_u16-count.ensures) parts.1))

pub returns-clause-ok : goal.returns-clause-ok
returns-clause-ok c =
    let bytes = c.args.bytes.now in
    let mid = c.take.new.self in
    let rest = c.read_events.new.reader in
    let events = c.in_ok-events.events in
    let count = c.read_u16-count.result in
    let front = sym c.new-reader.ensures ∙ c.in_ok-field.ensures.ok in
    let read = c.in_ok-events.ensures.ok in
    let least : 1 ≤ count = omega arith in
    let most : count ≤ 4097 = omega arith in
    let left : length rest ≤ length bytes =
    omega (arith, ap length front, length-append c.in_ok-field.field.now mid, ap length read.split, length-append (flat_map event_bytes events) rest) in
    let whole : (length bytes - c.left.result) + length rest ≡ length bytes = omega (arith, c.left.ensures) in
    entry_read bytes c.in_ok-field.field.now mid rest events count (length bytes - c.left.result) front c.in_ok-field.ensures.long c.read_u16-count.ensures least most read whole

pub returns-clause-only : goal.returns-clause-only
returns-clause-only c = only_entry c.args.bytes.now c.in_ok-events.events (length c.args.bytes.now - c.left.result) (returns-clause-ok c)

pub returns-clause-built : goal.returns-clause-built
returns-clause-built c = all_built c.in_ok-events.events (each_counted is_kept c.read_u16-count.result c.in_ok-events.events c.in_ok-events.ensures.ok.in_range)
