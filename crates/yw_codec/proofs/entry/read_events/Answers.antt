use Rattle.std.proofs.Common.{◌+◌, List, sym, subst}
use Rattle.std.specs.List.{flat_map}
use Rattle.std.proofs.lemmas.Result.{err_from_is_err_and}
use Rattle.yw_codec.specs.Entries.{is_kept}
use Rattle.yw_codec.specs.Events.{event_bytes}
use Rattle.yw_codec.specs.Forms.{Stands, are_counted}
use Rattle.yw_codec.specs.ListLaws.{none_further, one_more}
use Rattle.yw_codec.proofs.Kept.{kept_apart}
use Rattle.yw_codec.proofs.entry.read_events.Goals as goal
use Rattle.yw_state.specs.declared.event.Event.{Event}

pub returns-in_err-read_kept-clause-bad : goal.returns-in_err-read_kept-clause-bad
returns-in_err-read_kept-clause-bad c =
    let p = err_from_is_err_and c.from_residual.result c.from_residual.ensures.1 in
    rw (p.1, p.2) (λ bad. none_further is_kept event_bytes c.args.reader.now c.loop-i.reader c.loop-i.events c.loop-i._i c.args.count
    kept_apart c.loop-i.invariant c.loop-i-test.true (c.in_err-read_kept.ensures.bad bad))

pub loop-i-preserved : goal.loop-i-preserved
loop-i-preserved c =
    subst (λ (es : List Event). Stands (are_counted is_kept (c.loop-i._i + 1)) (flat_map event_bytes) c.args.reader.now es c.read_kept.new.reader) (sym c.in_ok-push.ensures.ok)
    (one_more is_kept event_bytes c.args.reader.now c.loop-i.reader c.read_kept.new.reader c.loop-i.events c.loop-i._i c.in_ok-read_kept.field-0 c.loop-i.invariant c.in_ok-read_kept.ensures.ok)
